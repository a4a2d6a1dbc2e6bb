-- Bytes that are types.
use Rattle.std.specs.Prelude.{◌≡◌, ℕ, List, Result, Ok, Err}
use Rattle.kc_btf.specs.Btf.{Types, btf}
use Rattle.kc_command.specs.declared.halt.Halt.{Halt}
use Rattle.kc_command.specs.declared.refusal.Refusal.TheVariants as refusals
use Rattle.kc_command.specs.Made.{Halts, checked}

abbrev pub AreTypes : List ℕ → Type 0
AreTypes bytes = (types : Types) × (btf bytes ≡ Ok types)

-- they are, or the halt is their first fault
abbrev pub ChecksTypes : {A : Type 0} → List ℕ → Result A Halt → Type 0
ChecksTypes bytes (Ok a) = AreTypes bytes
ChecksTypes bytes (Err halt) = Halts (checked refusals.Types (btf bytes)) halt
