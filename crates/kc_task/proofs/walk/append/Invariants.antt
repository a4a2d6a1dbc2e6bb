use Rattle.std.proofs.Common.{◌≡◌, ◌++◌, take}
use Rattle.kc_task.proofs.walk.append.Given as goal

abbrev pub invariant-loop-task : goal.invariant-loop-task
invariant-loop-task l = l.tasks ≡ l.fn.tasks ++ take l.task-index l.more
