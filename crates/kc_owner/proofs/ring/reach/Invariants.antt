use Rattle.std.proofs.Common.{◌≡◌, ◌+◌, ◌-◌, ◌*◌, ◌≤◌}
use Rattle.kc_memory.specs.Stays.{SpaceStays}
use Rattle.kc_owner.specs.Rings.{most_nodes}
use Rattle.kc_owner.proofs.RingLemmas.{Reaching}
use Rattle.kc_owner.proofs.ring.reach.Given as goal

abbrev pub invariant-loop-left : goal.invariant-loop-left
invariant-loop-left g l = record {
  far : Reaching l.way l.ends most_nodes (g.S.Space.image l.fn.space) l.nodes l.left l.node;
  few : l.steps ≤ l.fn.steps + 12 * (most_nodes - l.left);
  inside : l.left ≤ most_nodes;
  stays : SpaceStays g.S.Space.image g.S.Space.files g.S.Space.through g.S.Space.most l.fn.space l.space;
  quiet : g.S.Space.faults l.space ≡ g.S.Space.faults l.fn.space;
}

abbrev pub decreases-loop-left : goal.decreases-loop-left
decreases-loop-left g l = l.left
