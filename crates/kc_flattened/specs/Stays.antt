-- What a call that reads a file leaves of its store, and what the count of failures says.
use Rattle.std.specs.Prelude.{◌≡◌, ℕ, ◌≤◌, List, Option, Result, Ok, Err}
use Rattle.kc_outside.specs.declared.store.Slot.{Slot}
use Rattle.kc_outside.specs.Counts.{Rose}
use Rattle.kc_outside.specs.Files.{Files}
use Rattle.kc_flattened.specs.declared.fault.FlatStop.{FlatStop}
use Rattle.kc_flattened.specs.declared.fault.FlatStop.TheVariants.{Fault, ReadFault, NoMemory}

-- the slots hold the same files with the same sizes, the same may be opened, and of the calls that were asked none
-- is taken back
pub record StoreStays {M : Type 0} (opened : M → Slot → Option (List ℕ)) (sizes : M → Slot → Option ℕ) (files : M → Option Files) (may : M → Slot → List ℕ → Type 0) (asked : M → ℕ) (old new : M) : Type 0 where
  pub same_opened : opened new ≡ opened old
  pub same_sizes : sizes new ≡ sizes old
  pub same_files : files new ≡ files old
  pub may_still : (s : Slot) (n : List ℕ) → may old s n → may new s n
  pub may_no_more : (s : Slot) (n : List ℕ) → may new s n → may old s n
  pub asked_later : asked old ≤ asked new

-- the count of failures rose where reading failed, and else it is as it was
abbrev pub CountsFaults : {A : Type 0} → Result A FlatStop → ℕ → ℕ → Type 0
CountsFaults (Ok a) before after = after ≡ before
CountsFaults (Err (Fault fault)) before after = after ≡ before
CountsFaults (Err NoMemory) before after = after ≡ before
CountsFaults (Err ReadFault) before after = (before ≤ after) × Rose before after
