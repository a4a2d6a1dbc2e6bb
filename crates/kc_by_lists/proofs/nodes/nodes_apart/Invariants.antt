use Rattle.std.proofs.Common.{drop}
use Rattle.kc_view.specs.TaskLists.{task_of}
use Rattle.kc_by_lists.specs.Apart.{nodes_apart}
use Rattle.kc_by_lists.proofs.Telling.{Adds}
use Rattle.kc_by_lists.proofs.nodes.nodes_apart.Given as goal

abbrev pub invariant-loop-i : goal.invariant-loop-i
invariant-loop-i l = Adds (task_of l.offset) (nodes_apart (task_of l.offset) 0 (drop l.from l.lists)) l.found l.over (drop l.i l.lists)
