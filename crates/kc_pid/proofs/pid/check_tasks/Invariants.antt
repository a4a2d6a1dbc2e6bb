use Rattle.std.proofs.Common.{◌≡◌, ◌+◌, ◌*◌, ◌-◌, ◌≤◌, drop, length}
use Rattle.std.specs.Prelude.{IfSome}
use Rattle.kc_memory.specs.Stays.{SpaceStays}
use Rattle.kc_view.specs.PidTables.{task_names}
use Rattle.kc_view.specs.TaskLists.{all_pass}
use Rattle.kc_pid.proofs.pid.check_tasks.Given as goal

abbrev pub invariant-loop-i : goal.invariant-loop-i
invariant-loop-i g l = record {
  same : IfSome (g.S.Space.image l.fn.space) (λ im. all_pass (task_names im l.pass.asked l.pass.shape l.pid) l.nodes ≡ all_pass (task_names im l.pass.asked l.pass.shape l.pid) (drop l.i l.nodes));
  inside : l.i ≤ length l.nodes;
  stays : SpaceStays g.S.Space.image g.S.Space.files g.S.Space.through g.S.Space.most l.fn.space l.space;
  spent : l.steps ≤ l.fn.steps + 60 * l.i;
  quiet : g.S.Space.faults l.space ≡ g.S.Space.faults l.fn.space;
}

abbrev pub decreases-loop-i : goal.decreases-loop-i
decreases-loop-i g l = length l.nodes - l.i
