-- The lines of the records, one after the other.
use Rattle.std.proofs.Common.{◌≡◌, ℕ, suc, ◌-◌, List, [], ◌++◌, Option, Some, None, Ok, sym, ap, ◌∙◌, append_assoc, arith}
use Rattle.std.specs.Prelude.{IfSome}
use Rattle.std.proofs.lemmas.List.{append-nil}
use Rattle.kc_memory.specs.Image.{Image}
use Rattle.kc_printk.specs.declared.record.LogEntry.{LogEntry}
use Rattle.kc_printk.specs.declared.record.Log.{Log}
use Rattle.kc_printk.specs.Answers.{LooksAs}
use Rattle.kc_printk.specs.Log.{line_at, lines, next_id}
use Rattle.kc_printk.specs.Records.{entry_at, index_of, room_after}

-- the lines so far, and those of the ids that are left, are all
abbrev pub IsPartly : Option Image → (Image → List ℕ) → List ℕ → Log → ℕ → ℕ → ℕ → Type 0
IsPartly image whole done log left id room = IfSome image (λ i. done ++ lines i log left id room ≡ whole i)

pub lines_none : (image : Option Image) (log : Log) (count id room : ℕ) (done : List ℕ) → done ≡ [] → IsPartly image (λ i. lines i log count id room) done log (count - 0) id room
lines_none None log count id room done empty = tt
lines_none (Some i) log count id room done empty =
    let same : count - 0 ≡ count = omega arith in
    ap (λ (d : List ℕ). d ++ lines i log (count - 0) id room) empty ∙ ap (λ n. lines i log n id room) same

pub lines_more : (image : Option Image) (whole : Image → List ℕ) (log : Log) (k left id room next room' : ℕ) (e : LogEntry) (done more : List ℕ) → k ≡ suc left
    → LooksAs (λ (e : LogEntry). e) (λ i. entry_at i log id room) image (Ok e) → IfSome image (λ i. more ≡ done ++ line_at i (index_of log id) e)
    → next ≡ next_id id → room' ≡ room_after room e → IsPartly image whole done log k id room → IsPartly image whole more log left next room'
unfolding lines
lines_more None whole log k left id room next room' e done more same is adds goes leaves so_far = tt
lines_more (Some i) whole log k left id room next room' e done more same is adds goes leaves so_far =
    let rest : LogEntry → List ℕ = λ e. lines i log left (next_id id) (room_after room e) in
    let both : LogEntry → List ℕ = λ e. line_at i (index_of log id) e ++ rest e in
    ap (λ n. more ++ lines i log left n room') goes ∙ ap (λ r. more ++ lines i log left (next_id id) r) leaves
    ∙ ap (λ (m : List ℕ). m ++ rest e) adds ∙ append_assoc done (line_at i (index_of log id) e) (rest e)
    ∙ ap (λ (e : LogEntry). done ++ both e) is ∙ ap (λ n. done ++ lines i log n id room) (sym same) ∙ so_far

pub lines_all : {X : Type 0} (image : Option Image) (whole : Image → List ℕ) (view : X → List ℕ) (log : Log) (left id room : ℕ) (done : List ℕ) (x : X) → left ≡ 0 → view x ≡ done
    → IsPartly image whole done log left id room → LooksAs view whole image (Ok x)
unfolding lines
lines_all None whole view log left id room done x end is so_far = tt
lines_all (Some i) whole view log left id room done x end is so_far =
    is ∙ sym (append-nil done) ∙ ap (λ n. done ++ lines i log n id room) (sym end) ∙ so_far
