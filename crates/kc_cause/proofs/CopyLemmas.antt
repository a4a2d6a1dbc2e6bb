-- Words that are looked at one after the other: the way back of a ring's node, and the heads of lists near a violation.
use Rattle.std.proofs.Common.{◌≡◌, ℕ, zero, suc, ◌-◌, ◌<◌, Bool, true, false, Option, Some, None, refl, sym, ap, ◌∙◌, arith}
use Rattle.std.specs.Prelude.{IfSome, is_some}
use Rattle.kc_memory.specs.Image.{Image}
use Rattle.kc_found.specs.Nodes.{at_offset}
use Rattle.kc_cause.specs.declared.signs.Sign.{Sign}
use Rattle.kc_cause.specs.Copies.{comes_back, comes_on, heads_sign, or_sign, word_sign}
use Rattle.kc_cause.specs.Signs.{number_at}

-- ---- the way back

-- the way that is left comes to the node as the whole way does
abbrev pub Comes : Option Image → ℕ → ℕ → ℕ → ℕ → (Image → Bool) → Type 0
Comes image node above here left whole = IfSome image (λ i. comes_back left i node above here ≡ whole i)

first_back : (i : Image) (node above here left : ℕ) (seen : Option ℕ) → 0 < left → seen ≡ number_at i (at_offset here 8)
    → comes_back left i node above here ≡ comes_on node above (comes_back (left - 1) i node above) seen
unfolding comes_back
first_back i node above here left seen some is =
    let more : left ≡ suc (left - 1) = omega (arith, some) in
    ap (λ n. comes_back n i node above here) more ∙ ap (comes_on node above (comes_back (left - 1) i node above)) (sym is)

met : (node above back : ℕ) (rest : ℕ → Bool) → back ≡ node → comes_on node above rest (Some back) ≡ true
met node above back rest same = grind arith

passed : (node above back : ℕ) (rest : ℕ → Bool) → (back ≡ node → ⊥) → back ≡ above → comes_on node above rest (Some back) ≡ false
passed node above back rest different same = grind arith

further : (node above back : ℕ) (rest : ℕ → Bool) → (back ≡ node → ⊥) → (back ≡ above → ⊥) → comes_on node above rest (Some back) ≡ rest back
further node above back rest different apart = grind arith

-- the word of the way that is looked at first
abbrev pub Reads : Option Image → ℕ → Option ℕ → Type 0
Reads image here seen = IfSome image (λ i. seen ≡ number_at i (at_offset here 8))

-- no way where it can't be read
pub back_unread : (image : Option Image) (node above here left : ℕ) (whole : Image → Bool) (seen : Option ℕ) → 0 < left → seen ≡ None
    → Reads image here seen → Comes image node above here left whole → IfSome image (λ i. false ≡ whole i)
back_unread None node above here left whole seen some none is so_far = tt
back_unread (Some i) node above here left whole seen some none is so_far = sym (first_back i node above here left None some (sym none ∙ is)) ∙ so_far

pub back_there : (image : Option Image) (node above here left : ℕ) (whole : Image → Bool) (seen : Option ℕ) (back : ℕ) → 0 < left → seen ≡ Some back → back ≡ node
    → Reads image here seen → Comes image node above here left whole → IfSome image (λ i. true ≡ whole i)
back_there None node above here left whole seen back some there same is so_far = tt
back_there (Some i) node above here left whole seen back some there same is so_far =
    sym (met node above back (comes_back (left - 1) i node above) same) ∙ sym (first_back i node above here left (Some back) some (sym there ∙ is)) ∙ so_far

pub back_passed : (image : Option Image) (node above here left : ℕ) (whole : Image → Bool) (seen : Option ℕ) (back : ℕ) → 0 < left → seen ≡ Some back
    → (back ≡ node → ⊥) → back ≡ above → Reads image here seen → Comes image node above here left whole → IfSome image (λ i. false ≡ whole i)
back_passed None node above here left whole seen back some there different same is so_far = tt
back_passed (Some i) node above here left whole seen back some there different same is so_far =
    sym (passed node above back (comes_back (left - 1) i node above) different same) ∙ sym (first_back i node above here left (Some back) some (sym there ∙ is)) ∙ so_far

pub back_further : (image : Option Image) (node above here left : ℕ) (whole : Image → Bool) (seen : Option ℕ) (back : ℕ) → 0 < left → seen ≡ Some back
    → (back ≡ node → ⊥) → (back ≡ above → ⊥) → Reads image here seen → Comes image node above here left whole → Comes image node above back (left - 1) whole
back_further None node above here left whole seen back some there different apart is so_far = tt
back_further (Some i) node above here left whole seen back some there different apart is so_far =
    sym (further node above back (comes_back (left - 1) i node above) different apart) ∙ sym (first_back i node above here left (Some back) some (sym there ∙ is)) ∙ so_far

pub back_ends : (image : Option Image) (node above here left : ℕ) (whole : Image → Bool) → left ≡ 0
    → Comes image node above here left whole → IfSome image (λ i. false ≡ whole i)
unfolding comes_back
back_ends None node above here left whole none so_far = tt
back_ends (Some i) node above here zero whole none so_far = so_far
back_ends (Some i) node above here (suc left) whole none so_far = absurd (cc)

-- ---- the heads of lists

-- the words that are left show what all do
abbrev pub Shows : Option Image → ℕ → ℕ → (Image → Option Sign) → Type 0
Shows image at left whole = IfSome image (λ i. heads_sign left i at ≡ whole i)

abbrev pub Seen : Option Image → ℕ → Option Sign → Type 0
Seen image at seen = IfSome image (λ i. seen ≡ word_sign i at)

first_head : (i : Image) (at left : ℕ) (seen : Option Sign) → 0 < left → seen ≡ word_sign i at
    → heads_sign left i at ≡ or_sign seen (heads_sign (left - 1) i (at_offset at 8))
unfolding heads_sign
first_head i at left seen some is =
    let more : left ≡ suc (left - 1) = omega (arith, some) in
    ap (λ n. heads_sign n i at) more ∙ ap (λ s. or_sign s (heads_sign (left - 1) i (at_offset at 8))) (sym is)

pub head_there : (image : Option Image) (at left : ℕ) (whole : Image → Option Sign) (seen : Option Sign) → 0 < left → is_some seen ≡ true
    → Seen image at seen → Shows image at left whole → IfSome image (λ i. seen ≡ whole i)
head_there None at left whole seen some there is so_far = tt
head_there (Some i) at left whole None some there is so_far = absurd (cc)
head_there (Some i) at left whole (Some sign) some there is so_far = sym (first_head i at left (Some sign) some is) ∙ so_far

pub head_further : (image : Option Image) (at left : ℕ) (whole : Image → Option Sign) (seen : Option Sign) → 0 < left → is_some seen ≡ false
    → Seen image at seen → Shows image at left whole → Shows image (at_offset at 8) (left - 1) whole
head_further None at left whole seen some none is so_far = tt
head_further (Some i) at left whole None some none is so_far = sym (first_head i at left None some is) ∙ so_far
head_further (Some i) at left whole (Some sign) some none is so_far = absurd (cc)

pub head_ends : (image : Option Image) (at left : ℕ) (whole : Image → Option Sign) → left ≡ 0 → Shows image at left whole → IfSome image (λ i. None ≡ whole i)
unfolding heads_sign
head_ends None at left whole none so_far = tt
head_ends (Some i) at zero whole none so_far = so_far
head_ends (Some i) at (suc left) whole none so_far = absurd (cc)
