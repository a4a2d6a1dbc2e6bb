use Rattle.std.proofs.Common.{◌≡◌, ◌+◌, ◌*◌, ◌-◌, ◌≤◌, []}
use Rattle.std.specs.Prelude.{IfSome}
use Rattle.kc_memory.specs.Stays.{SpaceStays}
use Rattle.kc_steps.specs.CachesBy.{nodes_by}
use Rattle.kc_steps.specs.Chains.{size}
use Rattle.kc_slub.proofs.walk.walk_nodes.Given as goal

abbrev pub invariant-loop-i : goal.invariant-loop-i
invariant-loop-i g l = record {
  same : IfSome (g.S.Space.image l.fn.space) (λ im.
      nodes_by im (g.C.Rings.ring_by im) (g.C.Chains.free_by im) l.pass.asked l.pass.shape l.pass.bases l.pass.objects l.pass.bases.nodes 0 [] (g.C.Rings.lists l.fn.chains)
      ≡ nodes_by im (g.C.Rings.ring_by im) (g.C.Chains.free_by im) l.pass.asked l.pass.shape l.pass.bases l.pass.objects (l.pass.bases.nodes - l.i) l.i l.slabs (g.C.Rings.lists l.chains));
  inside : l.i ≤ l.pass.bases.nodes;
  stays : SpaceStays g.S.Space.image g.S.Space.files g.S.Space.through g.S.Space.most l.fn.space l.space;
  pays : g.C.Rings.paid → l.steps + 1000 * size (g.C.Rings.lists l.chains) ≤ l.fn.steps + 1000 * size (g.C.Rings.lists l.fn.chains) + 12 * l.i;
  quiet : g.S.Space.faults l.space ≡ g.S.Space.faults l.fn.space;
}

abbrev pub decreases-loop-i : goal.decreases-loop-i
decreases-loop-i g l = l.pass.bases.nodes - l.i
