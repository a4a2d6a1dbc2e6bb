-- Bytes that were found to be types.
use Rattle.std.proofs.Common.{◌≡◌, ℕ, List, Some, Result, Ok, Err, refl}
use Rattle.kc_btf.specs.declared.stop.BtfFault.{BtfFault}
use Rattle.kc_btf.specs.Btf.{Types, btf}
use Rattle.kc_command.specs.declared.halt.Halt.{Halt}
use Rattle.kc_command.specs.declared.halt.Halt.TheVariants.{Refused, Store, Memory}
use Rattle.kc_command.specs.declared.refusal.Refusal.TheVariants as refusals
use Rattle.kc_command.specs.Halts.{NotRefused}
use Rattle.kc_command.specs.Made.{Is, checked}
use Rattle.kc_match.specs.Checked.{AreTypes}

are-by : (bytes : List ℕ) (r : Result Types BtfFault) (types : Types) → btf bytes ≡ r → checked refusals.Types r ≡ Some (Ok types) → AreTypes bytes
are-by bytes (Ok t) types is made = (t, is)
are-by bytes (Err fault) types is made = let none : ⊥ = cc in absurd none

pub are_types : (bytes : List ℕ) (types : Types) → checked refusals.Types (btf bytes) ≡ Some (Ok types) → AreTypes bytes
are_types bytes types made = are-by bytes (btf bytes) types refl made

-- they aren't refused again
pub not_refused_again : (bytes : List ℕ) (r : Result Types Halt) → AreTypes bytes → Is (λ types. types) (checked refusals.Types (btf bytes)) r → NotRefused r
not_refused_again bytes (Ok types) are is = tt
not_refused_again bytes (Err (Refused refusal)) are is =
    let made : checked refusals.Types (btf bytes) ≡ Some (Ok are.0) = rw are.1 refl in
    let none : ⊥ = cc (made, is) in none
not_refused_again bytes (Err Store) are is = tt
not_refused_again bytes (Err Memory) are is = tt
