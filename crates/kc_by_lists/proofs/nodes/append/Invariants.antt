use Rattle.std.proofs.Common.{◌≡◌, ◌++◌, take}
use Rattle.std.specs.Prelude.{map}
use Rattle.kc_view.specs.TaskLists.{task_of}
use Rattle.kc_by_lists.proofs.nodes.append.Given as goal

abbrev pub invariant-loop-node : goal.invariant-loop-node
invariant-loop-node l = l.found ≡ l.fn.found ++ map (task_of l.offset) (take l.node-index l.nodes)
