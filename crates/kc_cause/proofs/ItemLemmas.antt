-- Texts that grow item by item, and searches that go on.
use Rattle.std.proofs.Common.{◌≡◌, ℕ, zero, suc, ◌+◌, Bool, true, false, List, [], ◌∷◌, ◌++◌, drop, slice_get, Some, refl, sym, ap, ◌∙◌, add-one, append_assoc}
use Rattle.std.specs.Prelude.{find}
use Rattle.kc_text.specs.Compose.{texts}

drop_next : {X : Type 0} (xs : List X) (i : ℕ) (x : X) → slice_get xs i ≡ Some x → drop i xs ≡ x ∷ drop (suc i) xs
drop_next [] i x is = absurd (let none : ⊥ = cc in none)
drop_next (y ∷ ys) zero x is = let same : y ≡ x = cc in ap (λ z. z ∷ ys) same
drop_next (y ∷ ys) (suc i) x is = drop_next ys i x is

drop_item : {X : Type 0} (xs : List X) (i : ℕ) (x : X) → slice_get xs i ≡ Some x → drop i xs ≡ x ∷ drop (i + 1) xs
drop_item xs i x is = rw add-one (drop_next xs i x is)

-- a text that grows by an item's, in front of those of the items that are left
pub texts_item : {X : Type 0} (spell : X → List ℕ) (xs : List X) (i : ℕ) (x : X) (text grown whole : List ℕ) → slice_get xs i ≡ Some x → grown ≡ text ++ spell x
    → text ++ texts spell (drop i xs) ≡ whole → grown ++ texts spell (drop (i + 1) xs) ≡ whole
texts_item spell xs i x text grown whole is grows before =
    ap (λ l. l ++ texts spell (drop (i + 1) xs)) grows ∙ append_assoc text (spell x) (texts spell (drop (i + 1) xs)) ∙ ap (λ l. text ++ texts spell l) (sym (drop_item xs i x is)) ∙ before

-- an item that is wanted, and one that isn't
wanted_head : {X : Type 0} (test : X → Bool) (x : X) (xs : List X) → test x ≡ true → find test (x ∷ xs) ≡ Some x
wanted_head test x xs holds = rw holds refl

other_head : {X : Type 0} (test : X → Bool) (x : X) (xs : List X) → test x ≡ false → find test (x ∷ xs) ≡ find test xs
other_head test x xs fails = rw fails refl

-- the first that is wanted is this item, where those before it weren't
pub find_item : {X : Type 0} (test : X → Bool) (xs : List X) (i : ℕ) (x : X) → slice_get xs i ≡ Some x → test x ≡ true → find test (drop i xs) ≡ find test xs → find test xs ≡ Some x
find_item test xs i x is holds before = sym before ∙ ap (find test) (drop_item xs i x is) ∙ wanted_head test x (drop (i + 1) xs) holds

-- or it is among those after it
pub find_past : {X : Type 0} (test : X → Bool) (xs : List X) (i : ℕ) (x : X) → slice_get xs i ≡ Some x → test x ≡ false → find test (drop i xs) ≡ find test xs
    → find test (drop (i + 1) xs) ≡ find test xs
find_past test xs i x is fails before = sym (other_head test x (drop (i + 1) xs) fails) ∙ ap (find test) (sym (drop_item xs i x is)) ∙ before
