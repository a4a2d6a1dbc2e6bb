use Rattle.std.proofs.Common.{◌≡◌, take}
use Rattle.std.specs.Prelude.{map}
use Rattle.kc_view.specs.TaskLists.{task_of}
use Rattle.kc_task.proofs.rings.tasks_of.Given as goal

abbrev pub invariant-loop-i : goal.invariant-loop-i
invariant-loop-i l = l.tasks ≡ map (task_of l.offset) (take l.i l.nodes)
