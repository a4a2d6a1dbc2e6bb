-- What the caches of a ring's nodes have, so far and with the next one.
use Rattle.std.proofs.Common.{◌≡◌, ℕ, zero, suc, ◌+◌, ◌∷◌, ◌++◌, [], List, take, slice_get, Option, Some, None, option_to_list, refl, sym, ap, ◌∙◌, add-one}
use Rattle.std.specs.Prelude.{IfSome, Ok}
use Rattle.std.specs.List.{filter_map}
use Rattle.std.proofs.lemmas.List.Elements.{filter_map-append}
use Rattle.kc_memory.specs.Image.{Image}
use Rattle.kc_found.specs.Walks.{WalksAs}
use Rattle.kc_owner.specs.declared.object.shape.ObjectShape.{ObjectShape}
use Rattle.kc_owner.specs.Object.Keys.{cache_by}

one_by : {X Y : Type 0} (x : X) (o : Option Y) → filter_map (λ (_ : X). o) (x ∷ []) ≡ option_to_list o
one_by x None = refl
one_by x (Some y) = refl

taken_next : {X : Type 0} (xs : List X) (n : ℕ) (x : X) → slice_get xs n ≡ Some x → take (suc n) xs ≡ take n xs ++ x ∷ []
taken_next [] n x is = absurd (let none : ⊥ = cc in none)
taken_next (y ∷ ys) zero x is = let same : y ≡ x = cc in ap (λ z. z ∷ []) same
taken_next (y ∷ ys) (suc n) x is = ap (λ zs. y ∷ zs) (taken_next ys n x is)

-- what some caches have, one more of them
pub listed_next : {Y : Type 0} (h : Image → ℕ → Option Y) (image : Option Image) (shape : ObjectShape) (nodes : List ℕ) (n node cache : ℕ) (one : Option Y) (all new : List Y)
    → slice_get nodes n ≡ Some node → cache ≡ cache_by shape node
    → WalksAs {B = Option Y} (λ (k : Option Y). k) (λ i. Ok (h i cache)) image (Ok one)
    → new ≡ all ++ option_to_list one
    → IfSome image (λ i. all ≡ filter_map (λ node. h i (cache_by shape node)) (take n nodes))
    → IfSome image (λ i. new ≡ filter_map (λ node. h i (cache_by shape node)) (take (n + 1) nodes))
listed_next h None shape nodes n node cache one all new at by is added far = tt
listed_next {Y} h (Some i) shape nodes n node cache one all new at by is added far =
    let same : h i cache ≡ one = cc in
    let g = λ (m : ℕ). h i (cache_by shape m) in
    added
    ∙ ap (λ (l : List Y). l ++ option_to_list one) far
    ∙ ap (λ (k : Option Y). filter_map g (take n nodes) ++ option_to_list k) (sym same ∙ ap (h i) by)
    ∙ ap (λ (l : List Y). filter_map g (take n nodes) ++ l) (sym (one_by node (g node)))
    ∙ sym (filter_map-append g (take n nodes) (node ∷ []))
    ∙ ap (filter_map g) (sym (taken_next nodes n node at) ∙ ap (λ (m : ℕ). take m nodes) (sym (add-one n)))
