-- The first list, and a copy of it.
use Rattle.std.proofs.Common.{◌≡◌, ℕ, List, [], ◌∷◌, slice_get, Some, sym, ◌∙◌}
use Rattle.std.specs.Prelude.{Result, Ok, Err, IfOk}
use Rattle.kc_cert.specs.Fits.Shapes.{first_list}

first_at : (lists : List (List ℕ)) (ns : List ℕ) → slice_get lists 0 ≡ Some ns → ns ≡ first_list lists
first_at [] ns is = let none : ⊥ = cc in absurd none
first_at (ms ∷ others) ns is = let same : ms ≡ ns = cc in sym same

pub copy_is : {E : Type 0} (r : Result (List ℕ) E) (lists : List (List ℕ)) (ns : List ℕ) → slice_get lists 0 ≡ Some ns → IfOk r (λ copy. copy ≡ ns) → IfOk r (λ copy. copy ≡ first_list lists)
copy_is (Ok copy) lists ns is same = same ∙ first_at lists ns is
copy_is (Err e) lists ns is same = tt
