-- What always holds of the file in a slot.
use Rattle.std.specs.Prelude.{◌≡◌, ℕ, ◌<◌, ◌^◌, Some, IsSome}
use Rattle.std.proofs.Common.{arith, refl}
use Rattle.kc_outside.specs.declared.seen.Seen.{Seen}
use Rattle.kc_outside.specs.declared.seen.Seen.TheVariants.{Nothing, Opened, Sized}
use Rattle.kc_outside.specs.Seen.{seen_name, seen_size}

-- a slot whose size is learnt holds a file
pub seen_size-name : {F : Type 0} (seen : Seen F) → IsSome (seen_size seen) → IsSome (seen_name seen)
seen_size-name Nothing known = let none : ⊥ = Prim.cc in absurd none
seen_size-name (Opened file) known = refl
seen_size-name (Sized file size) known = refl

-- a size fits 64 bits
pub seen_size-small : {F : Type 0} (seen : Seen F) (n : ℕ) → seen_size seen ≡ Some n → n < 2 ^ 64
seen_size-small Nothing n known = let none : ⊥ = Prim.cc in absurd none
seen_size-small (Opened file) n known = let none : ⊥ = Prim.cc in absurd none
seen_size-small (Sized file size) n known =
    let same : size.bytes ≡ n = Prim.cc in
    let fits = size.fits in
    Prim.omega arith
