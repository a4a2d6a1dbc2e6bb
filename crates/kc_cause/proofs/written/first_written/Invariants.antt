use Rattle.std.proofs.Common.{◌≡◌}
use Rattle.kc_memory.specs.Stays.{SpaceStays}
use Rattle.kc_cause.specs.Written.{first_written}
use Rattle.kc_cause.proofs.WrittenLemmas.{Finds}
use Rattle.kc_cause.proofs.written.first_written.Given as goal

abbrev pub invariant-loop-left : goal.invariant-loop-left
invariant-loop-left g l = record {
  word : Finds (g.M.Space.image l.fn.memory) l.at l.left (λ image. first_written l.words image l.first);
  stays : SpaceStays g.M.Space.image g.M.Space.files g.M.Space.through g.M.Space.most l.fn.memory l.memory;
  quiet : g.M.Space.faults l.memory ≡ g.M.Space.faults l.fn.memory;
}

abbrev pub decreases-loop-left : goal.decreases-loop-left
decreases-loop-left g l = l.left
