-- Words that are looked at one after the other for one over which something was written.
use Rattle.std.proofs.Common.{◌≡◌, ℕ, zero, suc, ◌-◌, ◌<◌, true, false, Option, Some, None, sym, ap, ◌∙◌, arith}
use Rattle.std.specs.Prelude.{IfSome, is_some}
use Rattle.kc_memory.specs.declared.words.VWord.{VWord}
use Rattle.kc_memory.specs.Image.{Image}
use Rattle.kc_found.specs.Nodes.{at_offset}
use Rattle.kc_cause.specs.Written.{first_written, or_word, written_at}

-- of the words that are left the first is that of all
abbrev pub Finds : Option Image → ℕ → ℕ → (Image → Option VWord) → Type 0
Finds image at left whole = IfSome image (λ i. first_written left i at ≡ whole i)

abbrev pub Seen : Option Image → ℕ → Option VWord → Type 0
Seen image at seen = IfSome image (λ i. seen ≡ written_at i at)

first_word : (i : Image) (at left : ℕ) (seen : Option VWord) → 0 < left → seen ≡ written_at i at
    → first_written left i at ≡ or_word seen (first_written (left - 1) i (at_offset at 8))
unfolding first_written
first_word i at left seen some is =
    let more : left ≡ suc (left - 1) = omega (arith, some) in
    ap (λ n. first_written n i at) more ∙ ap (λ w. or_word w (first_written (left - 1) i (at_offset at 8))) (sym is)

pub word_there : (image : Option Image) (at left : ℕ) (whole : Image → Option VWord) (seen : Option VWord) → 0 < left → is_some seen ≡ true
    → Seen image at seen → Finds image at left whole → IfSome image (λ i. seen ≡ whole i)
word_there None at left whole seen some there is so_far = tt
word_there (Some i) at left whole None some there is so_far = absurd (cc)
word_there (Some i) at left whole (Some w) some there is so_far = sym (first_word i at left (Some w) some is) ∙ so_far

pub word_further : (image : Option Image) (at left : ℕ) (whole : Image → Option VWord) (seen : Option VWord) → 0 < left → is_some seen ≡ false
    → Seen image at seen → Finds image at left whole → Finds image (at_offset at 8) (left - 1) whole
word_further None at left whole seen some none is so_far = tt
word_further (Some i) at left whole None some none is so_far = sym (first_word i at left None some is) ∙ so_far
word_further (Some i) at left whole (Some w) some none is so_far = absurd (cc)

pub word_ends : (image : Option Image) (at left : ℕ) (whole : Image → Option VWord) → left ≡ 0 → Finds image at left whole → IfSome image (λ i. None ≡ whole i)
unfolding first_written
word_ends None at left whole none so_far = tt
word_ends (Some i) at zero whole none so_far = so_far
word_ends (Some i) at (suc left) whole none so_far = absurd (cc)
