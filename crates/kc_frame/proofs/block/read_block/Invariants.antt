use Rattle.std.proofs.Common.{◌≡◌, ◌-◌}
use Rattle.kc_memory.specs.Stays.{SpaceStays}
use Rattle.kc_frame.proofs.BlockLemmas.{OfOrders}
use Rattle.kc_frame.proofs.block.read_block.Given as goal

abbrev pub invariant-loop-order : goal.invariant-loop-order
invariant-loop-order g l = record {
  far : OfOrders l.shape l.page (g.S.Space.image l.fn.space) l.order;
  stays : SpaceStays g.S.Space.image g.S.Space.files g.S.Space.through g.S.Space.most l.fn.space l.space;
  quiet : g.S.Space.faults l.space ≡ g.S.Space.faults l.fn.space;
}

abbrev pub decreases-loop-order : goal.decreases-loop-order
decreases-loop-order g l = l.orders - l.order
