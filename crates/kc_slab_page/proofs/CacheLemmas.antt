-- The caches of the nodes so far, and the next one.
use Rattle.std.proofs.Common.{◌≡◌, ℕ, zero, suc, ◌+◌, ◌≤◌, ◌∷◌, [], List, drop, length, slice_get, Option, Some, None, refl, sym, ap, ◌∙◌, add-one, arith}
use Rattle.std.specs.Prelude.{IfSome, Ok}
use Rattle.kc_memory.specs.Image.{Image}
use Rattle.kc_found.specs.Walks.{WalksAs}
use Rattle.kc_slab_page.specs.declared.shape.PageShape.{PageShape}
use Rattle.kc_slab_page.specs.Caches.{Entries, caches_from, with_cache}

drop_next : {X : Type 0} (xs : List X) (n : ℕ) (x : X) → slice_get xs n ≡ Some x → drop n xs ≡ x ∷ drop (suc n) xs
drop_next [] n x is = absurd (let none : ⊥ = cc in none)
drop_next (y ∷ ys) zero x is = let same : y ≡ x = cc in ap (λ z. z ∷ ys) same
drop_next (y ∷ ys) (suc n) x is = drop_next ys n x is

from_next : (image : Image) (shape : PageShape) (wanted : Option (List ℕ)) (caches : Entries) (n : ℕ) (ns : List ℕ)
    → caches_from image shape wanted caches (n ∷ ns) ≡ caches_from image shape wanted (with_cache image shape wanted caches n) ns
unfolding caches_from
from_next image shape wanted caches n ns = refl

from_none : (image : Image) (shape : PageShape) (wanted : Option (List ℕ)) (caches : Entries) → caches_from image shape wanted caches [] ≡ caches
unfolding caches_from
from_none image shape wanted caches = refl

-- the caches of the nodes so far, and those that are still to come, are all
abbrev pub Far : Option Image → PageShape → Option (List ℕ) → List ℕ → ℕ → Entries → Type 0
Far image shape wanted nodes n caches =
    IfSome image (λ i. caches_from i shape wanted caches (drop n nodes) ≡ caches_from i shape wanted [] nodes)

pub nodes_next : (image : Option Image) (shape : PageShape) (wanted : Option (List ℕ)) (nodes : List ℕ) (n node : ℕ) (old new : Entries)
    → slice_get nodes n ≡ Some node → WalksAs {A = Unit {0}} {B = Entries} (λ _. new) (λ i. Ok (with_cache i shape wanted old node)) image (Ok tt)
    → Far image shape wanted nodes n old → Far image shape wanted nodes (n + 1) new
nodes_next None shape wanted nodes n node old new at added far = tt
nodes_next (Some i) shape wanted nodes n node old new at added far =
    let same : with_cache i shape wanted old node ≡ new = cc in
    ap (λ (k : ℕ). caches_from i shape wanted new (drop k nodes)) (add-one n)
    ∙ ap (λ (es : Entries). caches_from i shape wanted es (drop (suc n) nodes)) (sym same)
    ∙ sym (from_next i shape wanted old node (drop (suc n) nodes))
    ∙ ap (caches_from i shape wanted old) (sym (drop_next nodes n node at)) ∙ far

dropped : {X : Type 0} (xs : List X) (n : ℕ) → length xs ≤ n → drop n xs ≡ []
dropped [] zero all = refl
dropped [] (suc n) all = refl
dropped (x ∷ xs) zero all = absurd (omega (arith, all))
dropped (x ∷ xs) (suc n) all = dropped xs n (omega (arith, all))

pub nodes_done : {A : Type 0} (view : A → Entries) (image : Option Image) (shape : PageShape) (wanted : Option (List ℕ)) (nodes : List ℕ) (n : ℕ) (caches : A) → length nodes ≤ n
    → Far image shape wanted nodes n (view caches) → WalksAs {A = A} {B = Entries} view (λ i. Ok (caches_from i shape wanted [] nodes)) image (Ok caches)
nodes_done view None shape wanted nodes n caches all far = tt
nodes_done view (Some i) shape wanted nodes n caches all far =
    ap (λ (es : Entries). Ok es) (sym far ∙ ap (caches_from i shape wanted (view caches)) (dropped nodes n all) ∙ from_none i shape wanted (view caches))
