-- Which lists are the objects of a free list, or the lists of a slab cache or of tasks: those that its walk gives.
use Rattle.std.specs.Prelude.{ℕ, Bool, false, nat_eq, List, Result, Ok, Err}
use Rattle.std.specs.Cmp.Lexicographic.{pointwise}
use Rattle.kc_memory.specs.Bits.{Number}
use Rattle.kc_memory.specs.Image.{Image}
use Rattle.kc_view.specs.declared.slub.SlubShape.{SlubShape}
use Rattle.kc_view.specs.declared.tasks.TaskShape.{TaskShape}
use Rattle.kc_found.specs.declared.asked.Asked.{Asked}
use Rattle.kc_found.specs.declared.free.Grid.{Grid}
use Rattle.kc_found.specs.FreeLists.{free_list}
use Rattle.kc_found.specs.Violations.{Violation}
use Rattle.kc_steps.specs.CachesBy.{cache_lists}
use Rattle.kc_steps.specs.Chains.{Lists}
use Rattle.kc_steps.specs.TasksBy.{task_lists}

-- a walk gives what is the same as this
abbrev pub gives : {A : Type 0} → (A → A → Bool) → Result A Violation → A → Bool
gives same (Ok x) y = same x y
gives same (Err v) y = false

-- who asks makes no difference to what is given
abbrev pub nobody : Asked
nobody = record { audit = 0; start = 0 }

-- these are the objects of the free list on a grid, from the number of its first pointer
unfoldable pub is_free_list : Image → Grid → Number → List ℕ → Bool
is_free_list image grid first os = gives (pointwise nat_eq) (free_list image grid first nobody) os

-- these are the lists of a slab cache
unfoldable pub are_cache_lists : Image → SlubShape → Asked → Lists → Bool
are_cache_lists image shape asked lists = gives (pointwise (pointwise nat_eq)) (cache_lists image shape asked) lists

-- these are the lists of tasks
unfoldable pub are_task_lists : Image → TaskShape → Asked → Lists → Bool
are_task_lists image shape asked lists = gives (pointwise (pointwise nat_eq)) (task_lists image shape asked) lists
