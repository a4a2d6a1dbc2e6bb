-- What can't be read isn't known.
use Rattle.std.specs.Prelude.{◌≡◌, Option, None, Result, Ok, Err}
use Rattle.kc_memory.specs.declared.space.Stop.{Stop}
use Rattle.kc_memory.specs.declared.space.Stop.TheVariants as stops
use Rattle.kc_found.specs.declared.found.WalkStop.{WalkStop}
use Rattle.kc_found.specs.declared.found.WalkStop.TheVariants as ends

-- the answer at a stop: nothing is known of what a miss leaves out, and a failure is one
abbrev pub IsUnread : {A : Type 0} → Stop → Result (Option A) WalkStop → Type 0
IsUnread (stops.Miss s) r = r ≡ Ok None
IsUnread stops.Fault r = r ≡ Err ends.Fault
