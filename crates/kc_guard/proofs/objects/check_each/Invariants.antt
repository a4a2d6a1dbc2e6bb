use Rattle.std.proofs.Common.{◌≡◌, ◌-◌}
use Rattle.kc_memory.specs.Stays.{SpaceStays}
use Rattle.kc_guard.specs.Objects.{looked_up}
use Rattle.kc_guard.proofs.GuardLemmas.{OfObjects}
use Rattle.kc_guard.proofs.objects.check_each.Given as goal

abbrev pub invariant-loop-number : goal.invariant-loop-number
invariant-loop-number g l = record {
  far : OfObjects l.asked l.runs l.grid (looked_up l.free) (g.S.Space.image l.fn.space) l.number;
  stays : SpaceStays g.S.Space.image g.S.Space.files g.S.Space.through g.S.Space.most l.fn.space l.space;
  quiet : g.S.Space.faults l.space ≡ g.S.Space.faults l.fn.space;
}

abbrev pub decreases-loop-number : goal.decreases-loop-number
decreases-loop-number g l = l.grid.objects - l.number
