use Rattle.std.proofs.Common.{◌≡◌, ◌-◌}
use Rattle.std.specs.List.{range_with_len}
use Rattle.kc_memory.specs.Stays.{SpaceStays}
use Rattle.kc_owner.specs.Area.Modules.{in_part}
use Rattle.kc_owner.proofs.AreaLemmas.Finding.{Left}
use Rattle.kc_owner.proofs.area.modules.in_parts.Given as goal

abbrev pub invariant-loop-number : goal.invariant-loop-number
invariant-loop-number g l = record {
  left : Left (g.S.Space.image l.fn.space) (λ i. in_part i l.pass.shape.parts l.pass.address l.module_va) (range_with_len 0 l.pass.shape.parts.count) (range_with_len l.number (l.pass.shape.parts.count - l.number)) l.missed;
  stays : SpaceStays g.S.Space.image g.S.Space.files g.S.Space.through g.S.Space.most l.fn.space l.space;
  quiet : g.S.Space.faults l.space ≡ g.S.Space.faults l.fn.space;
}
