use Rattle.std.proofs.Common.{◌++◌, sym, ap, ◌∙◌, ◌∷◌, []}
use Rattle.kc_view.specs.TaskLists.{task_of}
use Rattle.kc_task.proofs.Passing.{one_task_more}
use Rattle.kc_task.proofs.rings.tasks_of.Goals as goal

pub loop-i-preserved : goal.loop-i-preserved
loop-i-preserved c =
    c.in_ok-push.ensures.added ∙ ap (λ l. l ++ task_of c.args.offset c.get.result.now ∷ []) c.loop-i.invariant
    ∙ sym (one_task_more c.args.offset c.args.nodes.now c.loop-i.i c.get.result.now c.get.ensures)
