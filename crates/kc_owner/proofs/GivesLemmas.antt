-- What steps give, where they come to something.
use Rattle.std.proofs.Common.{◌≡◌, ℕ, zero, suc, ◌+◌, ◌<◌, Bool, true, false, List, [], ◌∷◌, slice_get, Option, Some, None, refl, arith}
use Rattle.std.specs.Prelude.{Result, Ok, Err, IfOk, IfSome}
use Rattle.std.specs.List.{range_with_len}
use Rattle.kc_view.specs.Fields.{unless}
use Rattle.kc_found.specs.Trials.{and_then}
use Rattle.kc_found.specs.Violations.{Violation}
use Rattle.kc_owner.specs.Firsts.{despite, despite_any, first_of, or_else}

pub given : {A : Type 0} (P : A → Type 0) (r : Result A Violation) (x : A) → r ≡ Ok x → IfOk r P → P x
given {A} P r x is law = let here : IfOk {T = A} {E = Violation} (Ok x) P = rw is at law in here

pub then_gives : {A B : Type 0} (P : B → Type 0) (r : Result A Violation) (f : A → Result B Violation) → ((x : A) → r ≡ Ok x → IfOk (f x) P) → IfOk (and_then r f) P
then_gives P (Ok x) f next = next x refl
then_gives P (Err v) f next = tt

pub unless_gives : {A : Type 0} (P : A → Type 0) (b : Bool) (v : Violation) (r : Result A Violation) → (b ≡ false → IfOk r P) → IfOk (unless b v r) P
unless_gives P true v r next = tt
unless_gives P false v r next = next refl

module _ {B : Type 0} (P : B → Type 0) where
  pub despite_gives : (v : Violation) (rest : Result (Option B) Violation) → IfOk rest (λ o. IfSome o P) → IfOk (despite v rest) (λ o. IfSome o P)
  despite_gives v (Ok None) law = tt
  despite_gives v (Ok (Some b)) law = law
  despite_gives v (Err w) law = tt

  pub any_gives : (missed : Option Violation) (rest : Result (Option B) Violation) → IfOk rest (λ o. IfSome o P) → IfOk (despite_any missed rest) (λ o. IfSome o P)
  any_gives None rest law = law
  any_gives (Some v) rest law = despite_gives v rest law

  or_gives : (rest found : Result (Option B) Violation) → IfOk found (λ o. IfSome o P) → IfOk rest (λ o. IfSome o P) → IfOk (or_else rest found) (λ o. IfSome o P)
  or_gives rest (Ok None) here law = law
  or_gives rest (Ok (Some b)) here law = here
  or_gives rest (Err v) here law = despite_gives v rest law

module _ {A B : Type 0} (P : B → Type 0) (go : A → Result (Option B) Violation) where
  -- the first of some things that is found is one of them
  pub first_gives : (xs : List A) → ((i : ℕ) (x : A) → slice_get xs i ≡ Some x → IfOk (go x) (λ o. IfSome o P)) → IfOk (first_of go xs) (λ o. IfSome o P)
  unfolding first_of
  first_gives [] each = tt
  first_gives (x ∷ xs) each = or_gives P (first_of go xs) (go x) (each 0 x refl) (first_gives xs (λ i y at. each (suc i) y at))

range_in : (a n i k : ℕ) → slice_get (range_with_len a n) i ≡ Some k → k < a + n
range_in a zero i k is = absurd (let none : ⊥ = cc in none)
range_in a (suc n) zero k is = let same : a ≡ k = cc in omega arith
range_in a (suc n) (suc i) k is = let less = range_in (a + 1) n i k is in omega arith

pub in_range : (n i k : ℕ) → slice_get (range_with_len 0 n) i ≡ Some k → k < n
in_range n i k is = let less = range_in 0 n i k is in omega arith
