use Rattle.std.proofs.Common.{◌≡◌, ◌+◌, ◌*◌, ◌-◌, ◌≤◌, drop, length}
use Rattle.std.specs.Prelude.{IfSome}
use Rattle.kc_memory.specs.Stays.{SpaceStays}
use Rattle.kc_steps.specs.Chains.{size}
use Rattle.kc_steps.specs.PidsBy.{pid_by}
use Rattle.kc_steps.specs.TasksBy.{passed_by}
use Rattle.kc_pid.proofs.walk.pids_walk_by.Given as goal

abbrev pub invariant-loop-i : goal.invariant-loop-i
invariant-loop-i g l = record {
  same : IfSome (g.S.Space.image l.fn.space) (λ im. passed_by (pid_by im (g.C.HashChains.hash_by im) l.asked l.shape) l.items (g.C.HashChains.lists l.fn.chains)
      ≡ passed_by (pid_by im (g.C.HashChains.hash_by im) l.asked l.shape) (drop l.i l.items) (g.C.HashChains.lists l.chains));
  inside : l.i ≤ length l.items;
  stays : SpaceStays g.S.Space.image g.S.Space.files g.S.Space.through g.S.Space.most l.fn.space l.space;
  pays : g.C.HashChains.paid → l.steps + 1000 * size (g.C.HashChains.lists l.chains) ≤ l.fn.steps + 1000 * size (g.C.HashChains.lists l.fn.chains);
  quiet : g.S.Space.faults l.space ≡ g.S.Space.faults l.fn.space;
}

abbrev pub decreases-loop-i : goal.decreases-loop-i
decreases-loop-i g l = length l.items - l.i
