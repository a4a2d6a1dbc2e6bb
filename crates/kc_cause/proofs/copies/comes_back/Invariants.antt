use Rattle.std.proofs.Common.{◌≡◌}
use Rattle.kc_memory.specs.Stays.{SpaceStays}
use Rattle.kc_cause.specs.Copies.{comes_back}
use Rattle.kc_cause.proofs.CopyLemmas.{Comes}
use Rattle.kc_cause.proofs.copies.comes_back.Given as goal

abbrev pub invariant-loop-left : goal.invariant-loop-left
invariant-loop-left g l = record {
  comes : Comes (g.M.Space.image l.fn.memory) l.node l.above l.here l.left (λ image. comes_back 65536 image l.node l.above l.first);
  stays : SpaceStays g.M.Space.image g.M.Space.files g.M.Space.through g.M.Space.most l.fn.memory l.memory;
  quiet : g.M.Space.faults l.memory ≡ g.M.Space.faults l.fn.memory;
}

abbrev pub decreases-loop-left : goal.decreases-loop-left
decreases-loop-left g l = l.left
