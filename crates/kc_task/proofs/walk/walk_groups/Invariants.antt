use Rattle.std.proofs.Common.{◌≡◌, ◌+◌, ◌*◌, ◌-◌, ◌≤◌, [], drop, length}
use Rattle.std.specs.Prelude.{IfSome}
use Rattle.kc_memory.specs.Stays.{SpaceStays}
use Rattle.kc_steps.specs.Chains.{size}
use Rattle.kc_steps.specs.TasksBy.{gathered_by, leader_by}
use Rattle.kc_task.proofs.walk.walk_groups.Given as goal

abbrev pub invariant-loop-i : goal.invariant-loop-i
invariant-loop-i g l = record {
  same : IfSome (g.S.Space.image l.fn.space) (λ im.
      gathered_by (leader_by im (g.R.Rings.ring_by im) l.pass.asked l.pass.shape) [] (g.R.Rings.lists l.fn.rings) l.leaders
      ≡ gathered_by (leader_by im (g.R.Rings.ring_by im) l.pass.asked l.pass.shape) l.threads (g.R.Rings.lists l.rings) (drop l.i l.leaders));
  inside : l.i ≤ length l.leaders;
  stays : SpaceStays g.S.Space.image g.S.Space.files g.S.Space.through g.S.Space.most l.fn.space l.space;
  pays : g.R.Rings.paid → l.steps + 1000 * size (g.R.Rings.lists l.rings) ≤ l.fn.steps + 1000 * size (g.R.Rings.lists l.fn.rings) + 240 * l.i;
  quiet : g.S.Space.faults l.space ≡ g.S.Space.faults l.fn.space;
}

abbrev pub decreases-loop-i : goal.decreases-loop-i
decreases-loop-i g l = length l.leaders - l.i
