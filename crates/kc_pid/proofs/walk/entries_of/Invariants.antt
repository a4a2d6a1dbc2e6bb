use Rattle.std.proofs.Common.{◌≡◌, take}
use Rattle.kc_found.specs.XaSites.{entries}
use Rattle.kc_pid.proofs.walk.entries_of.Given as goal

abbrev pub invariant-loop-item : goal.invariant-loop-item
invariant-loop-item l = l.pids ≡ entries (take l.item-index l.items)
