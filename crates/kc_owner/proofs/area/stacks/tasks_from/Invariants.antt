use Rattle.std.proofs.Common.{◌≡◌, ◌∷◌, take}
use Rattle.std.specs.Prelude.{map}
use Rattle.kc_view.specs.TaskLists.{task_of}
use Rattle.kc_owner.proofs.area.stacks.tasks_from.Given as goal

abbrev pub invariant-loop-i : goal.invariant-loop-i
invariant-loop-i l = l.tasks ≡ l.first ∷ map (task_of l.offset) (take l.i l.nodes)
