use Rattle.std.proofs.Common.{◌≡◌, take}
use Rattle.kc_found.specs.XaSites.{entries}
use Rattle.kc_run.proofs.entries.entries_of.Given as goal

abbrev pub invariant-loop-i : goal.invariant-loop-i
invariant-loop-i l = l.nodes ≡ entries (take l.i l.items)
