-- Words that are read one after the other.
use Rattle.std.proofs.Common.{◌≡◌, ℕ, ◌+◌, ◌*◌, ◌%◌, ◌^◌, ◌≤◌, List, [], ◌∷◌, ◌++◌, Option, Some, None, Result, Ok, sym, ap, ◌∙◌, arith}
use Rattle.std.specs.Prelude.{IfSome}
use Rattle.std.proofs.lemmas.List.FromFn.{map-range_with_len_more}
use Rattle.kc_memory.specs.declared.words.VWord.{VWord}
use Rattle.kc_memory.specs.Image.{Image}
use Rattle.kc_memory.specs.Stopped.{Stopped}
use Rattle.kc_memory.specs.Translation.{vword}
use Rattle.kc_sight.specs.Looks.{LooksAs, words}

-- one word more
pub read_more : (image : Option Image) (first i va : ℕ) (old new : List (Result VWord Stopped)) (w : Result VWord Stopped)
    → va ≡ (first + 8 * i) % 2 ^ 64 → IfSome image (λ im. old ≡ words im first i) → LooksAs (λ (w : Result VWord Stopped). w) (λ im. vword im va) image (Ok w) → new ≡ old ++ w ∷ []
    → IfSome image (λ im. new ≡ words im first (i + 1))
unfolding words
read_more None first i va old new w at so_far is more = tt
read_more (Some im) first i va old new w at so_far is more =
    let f : ℕ → Result VWord Stopped = λ i. vword im ((first + 8 * i) % 2 ^ 64) in
    more ∙ ap (λ (l : List (Result VWord Stopped)). l ++ w ∷ []) so_far ∙ ap (λ (w : Result VWord Stopped). words im first i ++ w ∷ []) (is ∙ ap (vword im) at) ∙ sym (map-range_with_len_more f 0 i i (omega arith))

pub wraps : (first i : ℕ) → (first + i * 8 % 2 ^ 64) % 2 ^ 64 ≡ (first + 8 * i) % 2 ^ 64
wraps first i = omega arith

pub steps_more : (most i before then now : ℕ) → then ≤ before + most * i → now ≤ then + most → now ≤ before + most * (i + 1)
steps_more most i before then now so_far one = grind arith
