use Rattle.std.proofs.Common.{◌≡◌, map, take}
use Rattle.kc_repair.specs.Repairs.{change_of}
use Rattle.kc_repair.proofs.trial.changes_of.Given as goal

abbrev pub invariant-loop-i : goal.invariant-loop-i
invariant-loop-i l = l.changes ≡ map change_of (take l.i l.words)
