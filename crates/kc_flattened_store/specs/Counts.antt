-- What an opening leaves of the count of failures.
use Rattle.std.specs.Prelude.{◌≡◌, ℕ, Result, Ok, Err}
use Rattle.kc_outside.specs.Counts.{Rose}
use Rattle.kc_flattened.specs.declared.fault.FlatStop.{FlatStop}
use Rattle.kc_flattened.specs.declared.fault.FlatStop.TheVariants as stops
use Rattle.kc_flattened_store.specs.declared.stop.FlattenedFault.{FlattenedFault}
use Rattle.kc_flattened_store.specs.declared.stop.FlattenedFault.TheVariants.{Refused, Store, NoMemory}

-- why the records of a flattened file weren't read
abbrev pub fault_of : FlatStop → FlattenedFault
fault_of (stops.Fault fault) = Refused fault
fault_of stops.ReadFault = Store
fault_of stops.NoMemory = NoMemory

-- a call of the store failed exactly where this is reported
abbrev pub CountsOpening : {A : Type 0} → Result A FlattenedFault → ℕ → ℕ → Type 0
CountsOpening (Ok a) before after = after ≡ before
CountsOpening (Err (Refused fault)) before after = after ≡ before
CountsOpening (Err Store) before after = Rose before after
CountsOpening (Err NoMemory) before after = after ≡ before
