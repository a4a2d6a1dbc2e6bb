use Rattle.std.proofs.Common.{◌≡◌, ◌+◌, ◌*◌, ◌-◌, ◌≤◌, drop, length}
use Rattle.std.specs.Prelude.{IfSome}
use Rattle.kc_memory.specs.declared.rule.Rule.TheVariants.{T5}
use Rattle.kc_memory.specs.Stays.{SpaceStays}
use Rattle.kc_view.specs.Fields.{holds}
use Rattle.kc_view.specs.TaskLists.{all_pass}
use Rattle.kc_task.proofs.thread.check_parents.Given as goal

abbrev pub invariant-loop-i : goal.invariant-loop-i
invariant-loop-i g l = record {
  same : IfSome (g.S.Space.image l.fn.space) (λ im. all_pass (λ child. holds im l.pass.asked T5 child l.pass.shape.real_parent l.owner) l.children ≡ all_pass (λ child. holds im l.pass.asked T5 child l.pass.shape.real_parent l.owner) (drop l.i l.children));
  inside : l.i ≤ length l.children;
  stays : SpaceStays g.S.Space.image g.S.Space.files g.S.Space.through g.S.Space.most l.fn.space l.space;
  spent : l.steps ≤ l.fn.steps + 60 * l.i;
  quiet : g.S.Space.faults l.space ≡ g.S.Space.faults l.fn.space;
}

abbrev pub decreases-loop-i : goal.decreases-loop-i
decreases-loop-i g l = length l.children - l.i
