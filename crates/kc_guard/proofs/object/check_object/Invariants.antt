use Rattle.std.proofs.Common.{◌≡◌, ◌-◌, length}
use Rattle.kc_memory.specs.Stays.{SpaceStays}
use Rattle.kc_guard.proofs.GuardLemmas.{OfRuns}
use Rattle.kc_guard.proofs.object.check_object.Given as goal

abbrev pub invariant-loop-i : goal.invariant-loop-i
invariant-loop-i g l = record {
  far : OfRuns l.asked l.free l.object l.runs (g.S.Space.image l.fn.space) l.i;
  stays : SpaceStays g.S.Space.image g.S.Space.files g.S.Space.through g.S.Space.most l.fn.space l.space;
  quiet : g.S.Space.faults l.space ≡ g.S.Space.faults l.fn.space;
}

abbrev pub decreases-loop-i : goal.decreases-loop-i
decreases-loop-i g l = length l.runs - l.i
