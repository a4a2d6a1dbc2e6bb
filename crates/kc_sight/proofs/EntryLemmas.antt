-- One level of the entries on the way to an address.
use Rattle.std.proofs.Common.{◌≡◌, ◌≢◌, ℕ, zero, suc, ◌-◌, List, [], ◌∷◌, ◌++◌, Option, Some, None, Ok, Err, arith, refl, subst, sym, ap, ◌∙◌, append_assoc}
use Rattle.std.specs.Prelude.{IfSome, OnOk, Result}
use Rattle.std.specs.Option.{option_map_or}
use Rattle.std.proofs.lemmas.List.{append-nil}
use Rattle.kc_memory.specs.declared.frames.FrameStop.TheVariants.{Absent}
use Rattle.kc_memory.specs.declared.words.PWord.{PWord}
use Rattle.kc_memory.specs.Frames.{ReadsWord}
use Rattle.kc_memory.specs.Image.{Physical, pword}
use Rattle.kc_memory.specs.Translation.{cleared, entered, entered_by, entry_address, judged, refusal}
use Rattle.kc_sight.specs.declared.entries.TableEntry.{TableEntry}
use Rattle.kc_sight.specs.Entries.{entries_from, entry_before, table_in}

-- at the page itself
pub entries_end : (image : Option Physical) (sme va level table : ℕ) (old : List TableEntry) → level ≡ 0 → IfSome image (λ p. old ≡ old ++ entries_from p sme va level table)
unfolding entries_from
entries_end None sme va level table old end = tt
entries_end (Some p) sme va zero table old end = sym (append-nil old)
entries_end (Some p) sme va (suc level) table old end = absurd (omega arith)

-- where the dump doesn't have an entry
pub entries_stop : (image : Option Physical) (sme va level table pa : ℕ) (old : List TableEntry) → level ≢ 0 → pa ≡ entry_address level table va → ReadsWord image pa (Err Absent)
    → IfSome image (λ p. old ≡ old ++ entries_from p sme va level table)
unfolding entries_from
entries_stop None sme va level table pa old some at reads = tt
entries_stop (Some p) sme va zero table pa old some at reads = absurd (some refl)
entries_stop (Some p) sme va (suc level) table pa old some at reads =
    let rest : List TableEntry = option_map_or (entries_from p sme va level) (table_in (entered p sme va (suc level) table)) [] in
    let there : pword p (entry_address (suc level) table va) ≡ None = subst (λ (q : ℕ). pword p q ≡ None) at reads in
    sym (append-nil old) ∙ ap (λ w. old ++ entry_before (suc level) (entry_address (suc level) table va) w rest) (sym there)

-- and where it has it: on with the table that it leads to
pub entries_go : (image : Option Physical) (sme va level table pa : ℕ) (old new : List TableEntry) (word : PWord) (next : Option ℕ)
    → level ≢ 0 → pa ≡ entry_address level table va → ReadsWord image pa (Ok word)
    → ((va pa : ℕ) (w : PWord) → next ≡ table_in (judged va level pa w (cleared sme word.value) (refusal level (cleared sme word.value))))
    → IfSome image (λ p. new ≡ (old ++ record { level = level; pa = pa; word = word } ∷ []) ++ option_map_or (entries_from p sme va (level - 1)) next [])
    → IfSome image (λ p. new ≡ old ++ entries_from p sme va level table)
unfolding entries_from
entries_go None sme va level table pa old new word next some at reads leads rest = tt
entries_go (Some p) sme va zero table pa old new word next some at reads leads rest = absurd (some refl)
entries_go (Some p) sme va (suc level) table pa old new word next some at reads leads rest =
    let same : suc level - 1 ≡ level = omega arith in
    let there : pword p (entry_address (suc level) table va) ≡ Some word = subst (λ (q : ℕ). pword p q ≡ Some word) at reads in
    let entry : ℕ → TableEntry = λ q. record { level = suc level; pa = q; word = word } in
    let left : ℕ → Option ℕ → List TableEntry = λ k o. option_map_or (entries_from p sme va k) o [] in
    let whole : Option PWord → List TableEntry = λ w.
    entry_before (suc level) (entry_address (suc level) table va) w (left level (table_in (entered_by sme va (suc level) (entry_address (suc level) table va) w))) in
    rest ∙ append_assoc old (entry pa ∷ []) (left (suc level - 1) next)
    ∙ ap (λ (l : List TableEntry). old ++ l)
    (ap (λ (k : ℕ). entry pa ∷ left k next) same ∙ ap (λ (q : ℕ). entry q ∷ left level next) at
    ∙ ap (λ (o : Option ℕ). entry (entry_address (suc level) table va) ∷ left level o) (leads va (entry_address (suc level) table va) word)
    ∙ sym (ap whole there))

pub on_ok : {A E P Q : Type 0} (r : Result A E) → (P → Q) → OnOk r P → OnOk r Q
on_ok (Ok a) go p = go p
on_ok (Err e) go p = tt

-- the entries below one, after it
pub entries_after : (image : Option Physical) (sme va level next : ℕ) (old mid new : List TableEntry) (entry : TableEntry) → mid ≡ old ++ entry ∷ []
    → IfSome image (λ p. new ≡ mid ++ entries_from p sme va level next) → IfSome image (λ p. new ≡ (old ++ entry ∷ []) ++ option_map_or (entries_from p sme va level) (Some next) [])
entries_after None sme va level next old mid new entry is rest = tt
entries_after (Some p) sme va level next old mid new entry is rest = rest ∙ ap (λ (l : List TableEntry). l ++ entries_from p sme va level next) is

-- or none
pub entries_last : (image : Option Physical) (sme va level : ℕ) (old new : List TableEntry) (entry : TableEntry) → new ≡ old ++ entry ∷ []
    → IfSome image (λ p. new ≡ (old ++ entry ∷ []) ++ option_map_or (entries_from p sme va level) None [])
entries_last None sme va level old new entry is = tt
entries_last (Some p) sme va level old new entry is = is ∙ sym (append-nil (old ++ entry ∷ []))
