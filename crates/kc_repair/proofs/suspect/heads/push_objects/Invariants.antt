use Rattle.std.proofs.Common.{◌≡◌, ◌++◌}
use Rattle.kc_repair.specs.Suspect.Heads.{begins_at}
use Rattle.kc_repair.proofs.suspect.heads.push_objects.Given as goal

abbrev pub invariant-loop-i : goal.invariant-loop-i
invariant-loop-i l = l.changes ≡ l.fn.changes ++ begins_at l.at l.first l.size l.i
