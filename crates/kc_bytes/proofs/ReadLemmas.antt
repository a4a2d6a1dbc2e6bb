-- Bytes that are read one after the other.
use Rattle.std.proofs.Common.{◌≡◌, ℕ, suc, ◌-◌, List, [], ◌∷◌, ◌++◌, Option, Some, None, Ok, Err, refl, sym, ap, ◌∙◌, append_assoc, arith, subst}
use Rattle.std.specs.Prelude.{IfSome, Result}
use Rattle.std.proofs.lemmas.List.{append-nil}
use Rattle.kc_memory.specs.Image.{Image}
use Rattle.kc_memory.specs.Space.{AnswersAs}
use Rattle.kc_memory.specs.declared.space.Stop.{Stop}
use Rattle.kc_memory.specs.declared.space.Stop.TheVariants.{Miss, Fault}
use Rattle.kc_memory.specs.Stopped.{Stopped}
use Rattle.kc_bytes.specs.Bytes.{◌>>=◌, byte_at, bytes_at, onward, prefixed}
use Rattle.kc_bytes.specs.declared.stop.BytesStop.{BytesStop}
use Rattle.kc_bytes.specs.Reading.{Reads, ReadsAs, of_stop}

-- what was read, before what is left to read
abbrev pub IsPartly : Option Image → (Image → Result (List ℕ) Stopped) → List ℕ → ℕ → ℕ → Type 0
IsPartly image whole done left at = IfSome image (λ i. whole i ≡ prefixed done (bytes_at i left at))

none_before : (r : Result (List ℕ) Stopped) → r ≡ prefixed [] r
none_before (Ok bytes) = refl
none_before (Err s) = refl

pub read_none : (image : Option Image) (count at : ℕ) (done : List ℕ) → done ≡ [] → IsPartly image (λ i. bytes_at i count at) done (count - 0) at
read_none None count at done empty = tt
read_none (Some i) count at done empty =
    let same : count - 0 ≡ count = omega arith in
    none_before (bytes_at i count at) ∙ ap (λ d. prefixed d (bytes_at i count at)) (sym empty) ∙ ap (λ n. prefixed done (bytes_at i n at)) (sym same)

one_more : (done : List ℕ) (byte : ℕ) (r : Result (List ℕ) Stopped) → prefixed done (r >>= (λ rest. Ok (byte ∷ rest))) ≡ prefixed (done ++ byte ∷ []) r
one_more done byte (Ok rest) = ap (λ bytes. Ok bytes) (sym (append_assoc done (byte ∷ []) rest))
one_more done byte (Err s) = refl

pub read_more : (image : Option Image) (whole : Image → Result (List ℕ) Stopped) (k left at after byte : ℕ) (done next : List ℕ) → k ≡ suc left
    → AnswersAs (λ i. byte_at i at) image (Ok byte) → after ≡ onward at 1 → next ≡ done ++ byte ∷ [] → IsPartly image whole done k at → IsPartly image whole next left after
unfolding bytes_at
read_more None whole k left at after byte done next same reads on is so_far = tt
read_more (Some i) whole k left at after byte done next same reads on is so_far =
    let rest : Result (List ℕ) Stopped = bytes_at i left (onward at 1) in
    so_far ∙ ap (λ n. prefixed done (bytes_at i n at)) same
    ∙ ap (λ (b : Result ℕ Stopped). prefixed done (b >>= (λ byte. rest >>= (λ bytes. Ok (byte ∷ bytes))))) reads
    ∙ one_more done byte rest ∙ ap (λ d. prefixed d rest) (sym is) ∙ ap (λ a. prefixed next (bytes_at i left a)) (sym on)

read_stop : (i : Image) (whole : Image → Result (List ℕ) Stopped) (k left at : ℕ) (done : List ℕ) (s : Stopped) → k ≡ suc left
    → byte_at i at ≡ Err s → whole i ≡ prefixed done (bytes_at i k at) → whole i ≡ Err s
unfolding bytes_at
read_stop i whole k left at done s same reads so_far =
    let rest : Result (List ℕ) Stopped = bytes_at i left (onward at 1) in
    so_far ∙ ap (λ n. prefixed done (bytes_at i n at)) same
    ∙ ap (λ (b : Result ℕ Stopped). prefixed done (b >>= (λ byte. rest >>= (λ bytes. Ok (byte ∷ bytes))))) reads

-- what a call says that stops at a byte
pub stop_reads : {X : Type 0} (image : Option Image) (whole : Image → Result (List ℕ) Stopped) (view : X → List ℕ) (k left at : ℕ) (done : List ℕ) (stop : Stop) (r : Result X BytesStop) (e : BytesStop)
    → k ≡ suc left → AnswersAs (λ i. byte_at i at) image (Err stop) → IsPartly image whole done k at → r ≡ Err e → e ≡ of_stop stop → ReadsAs view whole image r
stop_reads None whole view k left at done stop r e same reads so_far is gives = tt
stop_reads {X} (Some i) whole view k left at done (Miss s) r e same reads so_far is gives =
    subst (λ (q : Result X BytesStop). Reads view (whole i) q) (sym (is ∙ ap (λ (b : BytesStop). Err b) gives)) (read_stop i whole k left at done s same reads so_far)
stop_reads {X} (Some i) whole view k left at done Fault r e same reads so_far is gives =
    subst (λ (q : Result X BytesStop). Reads view (whole i) q) (sym (is ∙ ap (λ (b : BytesStop). Err b) gives)) tt

pub read_all : {X : Type 0} (image : Option Image) (whole : Image → Result (List ℕ) Stopped) (view : X → List ℕ) (left at : ℕ) (done : List ℕ) (x : X) → left ≡ 0 → view x ≡ done
    → IsPartly image whole done left at → ReadsAs view whole image (Ok x)
unfolding bytes_at
read_all None whole view left at done x end is so_far = tt
read_all (Some i) whole view left at done x end is so_far =
    so_far ∙ ap (λ n. prefixed done (bytes_at i n at)) end ∙ ap (λ (bytes : List ℕ). Ok bytes) (append-nil done ∙ sym is)
