use Rattle.std.proofs.Common.{◌≡◌, ◌-◌}
use Rattle.std.specs.List.{range_with_len}
use Rattle.kc_memory.specs.Stays.{SpaceStays}
use Rattle.kc_owner.specs.Area.Processors.{in_processor}
use Rattle.kc_owner.proofs.AreaLemmas.Finding.{Left}
use Rattle.kc_owner.proofs.area.processors.in_processors.Given as goal

abbrev pub invariant-loop-number : goal.invariant-loop-number
invariant-loop-number g l = record {
  left : Left (g.S.Space.image l.fn.space) (λ i. in_processor i l.shape l.address) (range_with_len 0 l.count) (range_with_len l.number (l.count - l.number)) l.missed;
  stays : SpaceStays g.S.Space.image g.S.Space.files g.S.Space.through g.S.Space.most l.fn.space l.space;
  quiet : g.S.Space.faults l.space ≡ g.S.Space.faults l.fn.space;
}
