-- Which nodes the lists of a slab cache and of tasks give.
use Rattle.std.specs.Prelude.{ℕ, zero, suc, ◌+◌, List, [], ◌∷◌, ◌++◌, length, map}
use Rattle.kc_view.specs.declared.slub.SlubShape.{SlubShape}
use Rattle.kc_view.specs.declared.tasks.TaskShape.{TaskShape}
use Rattle.kc_view.specs.Caches.{slab_of}
use Rattle.kc_view.specs.TaskLists.{task_of}
use Rattle.kc_steps.specs.Chains.{Lists}

-- What the nodes of rings stand in, after so many lists that are passed over: a ring's list is followed by a list for each of its
-- nodes, which are passed over.
unfoldable pub nodes_apart : (ℕ → ℕ) → ℕ → Lists → List ℕ
nodes_apart element k [] = []
nodes_apart element zero (ns ∷ rest) = map element ns ++ nodes_apart element (length ns) rest
nodes_apart element (suc k) (ns ∷ rest) = nodes_apart element k rest

-- the slabs of a cache, by its lists
abbrev pub cache_nodes : SlubShape → Lists → List ℕ
cache_nodes shape lists = nodes_apart (slab_of shape) 0 lists

-- the threads of tasks, by their lists: the first has the leaders
abbrev pub task_nodes : TaskShape → Lists → List ℕ
task_nodes shape [] = []
task_nodes shape (ns ∷ rest) = nodes_apart (task_of shape.thread_node) 0 rest

-- how many numbers there are in lists
abbrev pub numbers : Lists → ℕ
numbers [] = 0
numbers (ns ∷ rest) = length ns + numbers rest
