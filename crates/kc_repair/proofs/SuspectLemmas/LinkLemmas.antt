-- Links that are looked at one after the other.
use Rattle.std.proofs.Common.{◌≡◌, ℕ, zero, suc, ◌-◌, ◌<◌, List, [], ◌∷◌, ◌++◌, Option, Some, None, option_to_list, refl, sym, ap, ◌∙◌, append_assoc, append-nil, arith}
use Rattle.std.specs.Prelude.{IfSome}
use Rattle.kc_memory.specs.declared.words.VWord.{VWord}
use Rattle.kc_memory.specs.Image.{Image}
use Rattle.kc_memory.specs.Translation.{vword}
use Rattle.kc_found.specs.declared.shapes.RbShape.{RbShape}
use Rattle.kc_found.specs.Nodes.{at_offset, readable}
use Rattle.kc_repair.specs.Suspect.Links.{below_link, chain_links, leading_to, linked, links_from}

pub other_link : (node others : ℕ) (w : VWord) (rest : List VWord) → (w.value ≡ node → ⊥) → leading_to node others (w ∷ rest) ≡ leading_to node others rest
other_link node others w rest different = grind arith

pub last_link : (node others : ℕ) (w : VWord) (rest : List VWord) → w.value ≡ node → others ≡ 0 → leading_to node others (w ∷ rest) ≡ Some w.va
last_link node others w rest same none = grind arith

pub next_link : (node others : ℕ) (w : VWord) (rest : List VWord) → w.value ≡ node → 0 < others → leading_to node others (w ∷ rest) ≡ leading_to node (others - 1) rest
next_link node zero w rest same some = absurd (omega (arith, some))
next_link node (suc others) w rest same some = grind arith

-- the link that is looked for is among those that are left
abbrev pub Remains : Option Image → ℕ → ℕ → ℕ → ℕ → ℕ → (Image → Option ℕ) → Type 0
Remains image offset node others at left whole = IfSome image (λ i. leading_to node others (chain_links i offset at left) ≡ whole i)

-- the first of them is this one
first_left : (i : Image) (offset at left : ℕ) (seen : Option VWord) → 0 < left → seen ≡ readable (vword i at)
    → chain_links i offset at left ≡ linked seen (λ node. chain_links i offset (at_offset node offset) (left - 1))
unfolding chain_links
first_left i offset at left seen some is =
    let more : left ≡ suc (left - 1) = omega (arith, some) in
    ap (chain_links i offset at) more ∙ ap (λ w. linked w (λ node. chain_links i offset (at_offset node offset) (left - 1))) (sym is)

-- none where it can't be read
pub ends_unread : (image : Option Image) (offset node others at left : ℕ) (whole : Image → Option ℕ) (seen : Option VWord) → 0 < left → seen ≡ None
    → IfSome image (λ i. seen ≡ readable (vword i at)) → Remains image offset node others at left whole → IfSome image (λ i. None ≡ whole i)
ends_unread None offset node others at left whole seen some none is so_far = tt
ends_unread (Some i) offset node others at left whole seen some none is so_far =
    ap (leading_to node others) (sym (first_left i offset at left None some (sym none ∙ is))) ∙ so_far

-- none where none are left
pub ends : (image : Option Image) (offset node others at left : ℕ) (whole : Image → Option ℕ) → left ≡ 0
    → Remains image offset node others at left whole → IfSome image (λ i. None ≡ whole i)
unfolding chain_links
ends None offset node others at left whole none so_far = tt
ends (Some i) offset node others at zero whole none so_far = so_far
ends (Some i) offset node others at (suc left) whole none so_far = absurd (cc)

-- it is the first one
pub ends_there : (image : Option Image) (offset node others at left : ℕ) (whole : Image → Option ℕ) (seen : Option VWord) (w : VWord) → 0 < left → seen ≡ Some w → w.value ≡ node → others ≡ 0
    → IfSome image (λ i. seen ≡ readable (vword i at)) → Remains image offset node others at left whole → IfSome image (λ i. Some w.va ≡ whole i)
ends_there None offset node others at left whole seen w some there same none is so_far = tt
ends_there (Some i) offset node others at left whole seen w some there same none is so_far =
    sym (last_link node others w _ same none) ∙ ap (leading_to node others) (sym (first_left i offset at left (Some w) some (sym there ∙ is))) ∙ so_far

-- it is the one after it
pub goes_by : (image : Option Image) (offset node others at left : ℕ) (whole : Image → Option ℕ) (seen : Option VWord) (w : VWord) → 0 < left → seen ≡ Some w → (w.value ≡ node → ⊥)
    → IfSome image (λ i. seen ≡ readable (vword i at)) → Remains image offset node others at left whole → Remains image offset node others (at_offset w.value offset) (left - 1) whole
goes_by None offset node others at left whole seen w some there different is so_far = tt
goes_by (Some i) offset node others at left whole seen w some there different is so_far =
    sym (other_link node others w _ different) ∙ ap (leading_to node others) (sym (first_left i offset at left (Some w) some (sym there ∙ is))) ∙ so_far

pub goes_on : (image : Option Image) (offset node others at left : ℕ) (whole : Image → Option ℕ) (seen : Option VWord) (w : VWord) → 0 < left → seen ≡ Some w → w.value ≡ node → 0 < others
    → IfSome image (λ i. seen ≡ readable (vword i at)) → Remains image offset node others at left whole → Remains image offset node (others - 1) (at_offset w.value offset) (left - 1) whole
goes_on None offset node others at left whole seen w some there same more is so_far = tt
goes_on (Some i) offset node others at left whole seen w some there same more is so_far =
    sym (next_link node others w _ same more) ∙ ap (leading_to node others) (sym (first_left i offset at left (Some w) some (sym there ∙ is))) ∙ so_far

-- the links of a tree that were found, and those ahead
abbrev pub Ahead : Option Image → RbShape → List VWord → List ℕ → ℕ → (Image → List VWord) → Type 0
Ahead image s found ahead left whole = IfSome image (λ i. found ++ links_from i s ahead left ≡ whole i)

pub begins_ahead : (image : Option Image) (s : RbShape) (at left : ℕ) → Ahead image s [] (at ∷ []) left (λ i. links_from i s (at ∷ []) left)
begins_ahead None s at left = tt
begins_ahead (Some i) s at left = refl

-- all are found where no address is left, or no more are looked at
pub all_found : (image : Option Image) (s : RbShape) (found : List VWord) (ahead : List ℕ) (left : ℕ) (whole : Image → List VWord) → ahead ≡ []
    → Ahead image s found ahead left whole → IfSome image (λ i. found ≡ whole i)
unfolding links_from
all_found None s found ahead left whole none so_far = tt
all_found (Some i) s found [] zero whole none so_far = sym (append-nil found) ∙ so_far
all_found (Some i) s found [] (suc left) whole none so_far = sym (append-nil found) ∙ so_far
all_found (Some i) s found (at ∷ ahead) left whole none so_far = absurd (cc)

pub most_found : (image : Option Image) (s : RbShape) (found : List VWord) (ahead : List ℕ) (left : ℕ) (whole : Image → List VWord) → left ≡ 0
    → Ahead image s found ahead left whole → IfSome image (λ i. found ≡ whole i)
unfolding links_from
most_found None s found ahead left whole none so_far = tt
most_found (Some i) s found ahead zero whole none so_far = sym (append-nil found) ∙ so_far
most_found (Some i) s found ahead (suc left) whole none so_far = absurd (cc)

-- one link more
pub one_found : (image : Option Image) (s : RbShape) (found more : List VWord) (ahead next : List ℕ) (at left : ℕ) (seen : Option VWord) (whole : Image → List VWord) → 0 < left
    → IfSome image (λ i. seen ≡ readable (vword i at)) → more ≡ found ++ option_to_list seen → next ≡ below_link s seen ++ ahead
    → Ahead image s found (at ∷ ahead) left whole → Ahead image s more next (left - 1) whole
unfolding links_from
one_found None s found more ahead next at left seen whole some is added below so_far = tt
one_found (Some i) s found more ahead next at left seen whole some is added below so_far =
    let same : left ≡ suc (left - 1) = omega (arith, some) in
    let one : option_to_list seen ++ links_from i s next (left - 1) ≡ links_from i s (at ∷ ahead) (suc (left - 1))
    = ap (λ l. option_to_list seen ++ links_from i s l (left - 1)) below ∙ ap (λ w. option_to_list w ++ links_from i s (below_link s w ++ ahead) (left - 1)) is in
    ap (λ l. l ++ links_from i s next (left - 1)) added ∙ append_assoc found (option_to_list seen) (links_from i s next (left - 1)) ∙ ap (λ l. found ++ l) (one ∙ ap (links_from i s (at ∷ ahead)) (sym same)) ∙ so_far
