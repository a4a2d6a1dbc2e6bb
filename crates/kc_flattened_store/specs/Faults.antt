-- Why a flattened file is refused, by its bytes.
use Rattle.std.specs.Prelude.{List, ℕ, Option, Result, Ok, Err, ⊤}
use Rattle.std.specs.Result.{result_err}
use Rattle.kc_flattened.specs.declared.fault.FlatFault.{FlatFault}
use Rattle.kc_flattened.specs.Flat.{unflat}
use Rattle.kc_flattened_store.specs.declared.stop.FlattenedFault.{FlattenedFault}
use Rattle.kc_flattened_store.specs.declared.stop.FlattenedFault.TheVariants as as_fault

-- the first fault of a flattened file; another file has none
abbrev pub refusal : List ℕ → Option FlatFault
refusal bytes = result_err (unflat bytes)

-- what is said of the fault of a file that an opening reports
abbrev pub IfRefused : {A : Type 0} → Result A FlattenedFault → (FlatFault → Type 0) → Type 0
IfRefused (Ok a) P = ⊤
IfRefused (Err as_fault.Store) P = ⊤
IfRefused (Err (as_fault.Refused fault)) P = P fault
IfRefused (Err as_fault.NoMemory) P = ⊤
