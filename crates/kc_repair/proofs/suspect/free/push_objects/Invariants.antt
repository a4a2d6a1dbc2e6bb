use Rattle.std.proofs.Common.{◌≡◌, ◌++◌}
use Rattle.kc_repair.specs.Suspect.FreePointers.{free_pointers}
use Rattle.kc_repair.proofs.suspect.free.push_objects.Given as goal

abbrev pub invariant-loop-i : goal.invariant-loop-i
invariant-loop-i l = l.changes ≡ l.fn.changes ++ free_pointers l.random l.at l.size l.object l.i
