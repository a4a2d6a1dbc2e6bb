use Rattle.std.proofs.Common.{◌≡◌, ◌-◌}
use Rattle.kc_memory.specs.Stays.{SpaceStays}
use Rattle.kc_frame.proofs.ZoneLemmas.{OfPlaces}
use Rattle.kc_frame.proofs.zone.read_zones.Given as goal

abbrev pub invariant-loop-place : goal.invariant-loop-place
invariant-loop-place g l = record {
  far : OfPlaces l.shape l.page (g.S.Space.image l.fn.space) l.place;
  stays : SpaceStays g.S.Space.image g.S.Space.files g.S.Space.through g.S.Space.most l.fn.space l.space;
  quiet : g.S.Space.faults l.space ≡ g.S.Space.faults l.fn.space;
}

abbrev pub decreases-loop-place : goal.decreases-loop-place
decreases-loop-place g l = 512 - l.place
