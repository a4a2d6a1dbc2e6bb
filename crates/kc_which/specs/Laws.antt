-- What the ring of a violation says of the walk that found it.
use Rattle.std.specs.Prelude.{◌≡◌, Bool, true, false, Some, None, Err}
use Rattle.kc_memory.specs.declared.rule.Rule.{Rule}
use Rattle.kc_memory.specs.declared.rule.Rule.TheVariants.{A, K, L1, N}
use Rattle.kc_memory.specs.Image.{Image}
use Rattle.kc_found.specs.Violations.{Violation}
use Rattle.kc_view.specs.declared.slub.SlubShape.{SlubShape}
use Rattle.kc_view.specs.declared.tasks.TaskShape.{TaskShape}
use Rattle.kc_view.specs.Caches.{cache_slabs}
use Rattle.kc_view.specs.Fields.{started_at}
use Rattle.kc_view.specs.TaskLists.{task_list}
use Rattle.kc_which.specs.declared.caches.CacheRing.{CacheRing}
use Rattle.kc_which.specs.declared.tasks.TaskRing.{TaskRing}
use Rattle.kc_which.specs.CacheRings as caches
use Rattle.kc_which.specs.Ends.{asked_of}
use Rattle.kc_which.specs.TaskRings as tasks

-- a rule that the walk of a task list breaks at rings alone
abbrev pub is_of_task_ring : Rule → Bool
is_of_task_ring A = true
is_of_task_ring K = true
is_of_task_ring L1 = true
is_of_task_ring N = true
is_of_task_ring _ = false

-- a rule that the walk of a cache breaks at partial lists alone: a free list can break A too
abbrev pub is_of_cache_ring : Rule → Bool
is_of_cache_ring K = true
is_of_cache_ring L1 = true
is_of_cache_ring N = true
is_of_cache_ring _ = false

-- the first violation of a task list, where it is of such a rule, has a ring, and the walk of that ring finds it
abbrev pub TaskRingsAreTold : Type 0
TaskRingsAreTold =
    (image : Image) (shape : TaskShape) (v : Violation) → task_list image shape (asked_of v) ≡ Err v → v.stop ≡ None → is_of_task_ring v.rule ≡ true
    → (ring : TaskRing) × (tasks.task_ring image shape v ≡ Some ring) × (started_at v.start (tasks.nodes_on image shape v ring) ≡ Err v)

-- so has that of a cache a partial list
abbrev pub CacheRingsAreTold : Type 0
CacheRingsAreTold =
    (image : Image) (shape : SlubShape) (v : Violation) → cache_slabs image shape (asked_of v) ≡ Err v → v.stop ≡ None → is_of_cache_ring v.rule ≡ true
    → (list : CacheRing) × (caches.cache_ring image shape v ≡ Some list) × (started_at v.start (caches.nodes_on image shape v list) ≡ Err v)
