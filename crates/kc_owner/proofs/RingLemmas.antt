-- The nodes that were reached so far, and the next one.
use Rattle.std.proofs.Common.{◌≡◌, ℕ, suc, ◌+◌, ◌-◌, ◌<◌, ◌≤◌, ◌∷◌, ◌++◌, [], List, length, slice_get, Option, Some, None, refl, sym, ap, ◌∙◌, arith}
use Rattle.std.specs.Prelude.{IfSome, Ok}
use Rattle.kc_memory.specs.Image.{Image}
use Rattle.kc_found.specs.Walks.{WalksAs}
use Rattle.kc_owner.specs.declared.ring.Ends.{Ends}
use Rattle.kc_owner.specs.declared.ring.Way.{Way}
use Rattle.kc_list.specs.Listed.{last_or}
use Rattle.kc_owner.specs.Rings.{next_in, on_node, reached}

pushed : (xs : List ℕ) (x : ℕ) (ys : List ℕ) → (xs ++ x ∷ []) ++ ys ≡ xs ++ (x ∷ ys)
pushed [] x ys = refl
pushed (z ∷ zs) x ys = ap (λ (ws : List ℕ). z ∷ ws) (pushed zs x ys)

and_none : (xs : List ℕ) → xs ++ [] ≡ xs
and_none [] = refl
and_none (x ∷ xs) = ap (λ (ys : List ℕ). x ∷ ys) (and_none xs)

reached_next : (i : Image) (way : Way) (ends : Ends) (left node : ℕ) → reached i way ends (suc left) node ≡ on_node (next_in i way ends node) (λ next. reached i way ends left next)
unfolding reached
reached_next i way ends left node = refl

reached_none : (i : Image) (way : Way) (ends : Ends) (node : ℕ) → reached i way ends 0 node ≡ []
unfolding reached
reached_none i way ends node = refl

module _ (way : Way) (ends : Ends) (most : ℕ) where
  left_next : (i : Image) (left node : ℕ) → 0 < left → reached i way ends left node ≡ on_node (next_in i way ends node) (λ next. reached i way ends (left - 1) next)
  left_next i left node some =
      let e : left ≡ suc (left - 1) = omega (arith, some) in
      ap (λ (n : ℕ). reached i way ends n node) e ∙ reached_next i way ends (left - 1) node

  abbrev pub Reaching : Option Image → List ℕ → ℕ → ℕ → Type 0
  Reaching image nodes left node = IfSome image (λ i. nodes ++ reached i way ends left node ≡ reached i way ends most ends.head)

  pub reach_begin : (image : Option Image) → Reaching image [] most ends.head
  reach_begin None = tt
  reach_begin (Some i) = refl

  pub reach_next : (image : Option Image) (old new : List ℕ) (left node next : ℕ) → 0 < left → new ≡ old ++ next ∷ []
      → WalksAs {A = Option ℕ} {B = Option ℕ} (λ n. n) (λ i. Ok (next_in i way ends node)) image (Ok (Some next)) → Reaching image old left node → Reaching image new (left - 1) next
  reach_next None old new left node next some added read far = tt
  reach_next (Some i) old new left node next some added read far =
      let same : next_in i way ends node ≡ Some next = cc in
      ap (λ (xs : List ℕ). xs ++ reached i way ends (left - 1) next) added ∙ pushed old next (reached i way ends (left - 1) next)
      ∙ sym (ap (λ (xs : List ℕ). old ++ xs) (left_next i left node some ∙ ap (λ (o : Option ℕ). on_node o (λ next. reached i way ends (left - 1) next)) same)) ∙ far

  pub reach_none : (image : Option Image) (nodes : List ℕ) (left node : ℕ) → 0 < left
      → WalksAs {A = Option ℕ} {B = Option ℕ} (λ n. n) (λ i. Ok (next_in i way ends node)) image (Ok None) → Reaching image nodes left node
      → WalksAs {A = List ℕ} {B = List ℕ} (λ ns. ns) (λ i. Ok (reached i way ends most ends.head)) image (Ok nodes)
  reach_none None nodes left node some read far = tt
  reach_none (Some i) nodes left node some read far =
      let same : next_in i way ends node ≡ None = cc in
      ap (λ (ns : List ℕ). Ok ns) (sym far
      ∙ ap (λ (xs : List ℕ). nodes ++ xs) (left_next i left node some ∙ ap (λ (o : Option ℕ). on_node o (λ next. reached i way ends (left - 1) next)) same) ∙ and_none nodes)

  pub reach_done : (image : Option Image) (nodes : List ℕ) (left node : ℕ) → left ≤ 0 → Reaching image nodes left node
      → WalksAs {A = List ℕ} {B = List ℕ} (λ ns. ns) (λ i. Ok (reached i way ends most ends.head)) image (Ok nodes)
  reach_done None nodes left node none far = tt
  reach_done (Some i) nodes left node none far =
      let e : left ≡ 0 = omega (arith, none) in
      ap (λ (ns : List ℕ). Ok ns) (sym far ∙ ap (λ (xs : List ℕ). nodes ++ xs) (ap (λ (n : ℕ). reached i way ends n node) e ∙ reached_none i way ends node) ∙ and_none nodes)

-- the last of some nodes
last_is : (head : ℕ) (ns : List ℕ) (n : ℕ) → slice_get ns (length ns - 1) ≡ Some n → last_or head ns ≡ n
last_is head [] n is = let none : ⊥ = cc in absurd none
last_is head (m ∷ []) n is = let same : m ≡ n = cc in same
last_is head (m ∷ k ∷ ns) n is = last_is m (k ∷ ns) n (let at : suc (suc (length ns)) - 1 ≡ suc (suc (length ns) - 1) = omega arith in rw at at is)

pub last_at : (head i : ℕ) (ns : List ℕ) (n : ℕ) → slice_get ns i ≡ Some n → i ≡ length ns - 1 → n ≡ last_or head ns
last_at head i ns n is at = sym (last_is head ns n (ap (slice_get ns) (sym at) ∙ is))
