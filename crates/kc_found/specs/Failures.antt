-- What the count of failures says, where what reads a dump may fail.
use Rattle.std.specs.Prelude.{◌≡◌, ℕ, ◌≤◌, Result, Ok, Err}
use Rattle.kc_outside.specs.Counts.{Rose}
use Rattle.kc_found.specs.declared.failed.ReadFailed.{ReadFailed}
use Rattle.kc_found.specs.declared.failed.ReadFailed.TheVariants.{Fault, NoMemory}

-- the count of failures rose where reading failed, and else it is as it was
abbrev pub CountsFailures : {A : Type 0} → Result A ReadFailed → ℕ → ℕ → Type 0
CountsFailures (Ok x) before after = after ≡ before
CountsFailures (Err Fault) before after = (before ≤ after) × Rose before after
CountsFailures (Err NoMemory) before after = after ≡ before
