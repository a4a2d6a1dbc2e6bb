-- What the tests of lists say of walks. The number of the audit that asks makes no difference.
use Rattle.std.specs.Prelude.{◌≡◌, ℕ, ◌≤◌, true, List, [], length, Ok}
use Rattle.kc_memory.specs.Image.{Image}
use Rattle.kc_memory.specs.Translation.{vword}
use Rattle.kc_view.specs.declared.slub.SlubShape.{SlubShape}
use Rattle.kc_view.specs.declared.tasks.TaskShape.{TaskShape}
use Rattle.kc_view.specs.Caches.{cache_slabs}
use Rattle.kc_view.specs.TaskLists.{task_list}
use Rattle.kc_found.specs.declared.asked.Asked.{Asked}
use Rattle.kc_steps.specs.CachesBy.{cache_by, cache_lists}
use Rattle.kc_steps.specs.Chains.{Lists, free_kept, ring_kept}
use Rattle.kc_steps.specs.Given.{TestsFree, TestsRings, free_given, ring_given}
use Rattle.kc_steps.specs.TasksBy.{task_lists, tasks_all_by}
use Rattle.kc_list.specs.Listed.{is_ring}
use Rattle.kc_by_lists.specs.Apart.{cache_nodes, numbers, task_nodes}
use Rattle.kc_by_lists.specs.Tests.{are_cache_lists, are_task_lists, is_free_list}

-- a list passes the test of a ring, or of a free list, exactly where it is the one of the walk
abbrev pub ChainsAreTested : Type 0
ChainsAreTested = (image : Image) → TestsRings image (is_ring (vword image)) × TestsFree image (is_free_list image)

-- lists pass the test of a slab cache exactly where they are those that its walk keeps, so no two do
abbrev pub CacheListsAreTested : Type 0
CacheListsAreTested =
    (image : Image) (shape : SlubShape) (asked : Asked) (lists : Lists)
    → (are_cache_lists image shape asked lists ≡ true → cache_lists image shape asked ≡ Ok lists) × (cache_lists image shape asked ≡ Ok lists → are_cache_lists image shape asked lists ≡ true)

-- and so with tasks
abbrev pub TaskListsAreTested : Type 0
TaskListsAreTested =
    (image : Image) (shape : TaskShape) (asked : Asked) (lists : Lists)
    → (are_task_lists image shape asked lists ≡ true → task_lists image shape asked ≡ Ok lists) × (task_lists image shape asked ≡ Ok lists → are_task_lists image shape asked lists ≡ true)

abbrev pub asked_by : ℕ → ℕ → Asked
asked_by audit start = record { audit = audit; start = start }

-- a walk of a cache that takes its lists uses up just those of the cache
abbrev pub CacheListsAreUsedUp : Type 0
CacheListsAreUsedUp =
    (image : Image) (shape : SlubShape) (asked : Asked) (lists : Lists)
    → ((slabs : List ℕ) → cache_by image (ring_given (is_ring (vword image))) (free_given (is_free_list image)) shape asked lists ≡ Ok (slabs, []) → are_cache_lists image shape asked lists ≡ true)
    × (are_cache_lists image shape asked lists ≡ true → (slabs : List ℕ) × (cache_by image (ring_given (is_ring (vword image))) (free_given (is_free_list image)) shape asked lists ≡ Ok (slabs, [])))

-- the slabs of a cache are what its lists give
abbrev pub CacheListsGive : Type 0
CacheListsGive =
    (image : Image) (shape : SlubShape) (n m start : ℕ) (lists : Lists)
    → are_cache_lists image shape (asked_by n start) lists ≡ true → cache_slabs image shape (asked_by m start) ≡ Ok (cache_nodes shape lists)

-- and a cache that is walked has such lists
abbrev pub CachesHaveLists : Type 0
CachesHaveLists =
    (image : Image) (shape : SlubShape) (n m start : ℕ) (slabs : List ℕ)
    → cache_slabs image shape (asked_by m start) ≡ Ok slabs → (lists : Lists) × (are_cache_lists image shape (asked_by n start) lists ≡ true) × (cache_nodes shape lists ≡ slabs)

-- which are those that a walk keeps
abbrev pub CacheListsAreKept : Type 0
CacheListsAreKept =
    (image : Image) (shape : SlubShape) (n m start : ℕ) (slabs : List ℕ) (lists : Lists)
    → cache_by image (ring_kept image) (free_kept image) shape (asked_by m start) [] ≡ Ok (slabs, lists)
    → (are_cache_lists image shape (asked_by n start) lists ≡ true) × (cache_nodes shape lists ≡ slabs)

-- there are no more slabs than numbers in the lists
abbrev pub FewCacheNodes : Type 0
FewCacheNodes = (shape : SlubShape) (lists : Lists) → length (cache_nodes shape lists) ≤ numbers lists

-- a walk of tasks that takes its lists uses up just those of the tasks
abbrev pub TaskListsAreUsedUp : Type 0
TaskListsAreUsedUp =
    (image : Image) (shape : TaskShape) (asked : Asked) (lists : Lists)
    → ((tasks : List ℕ) → tasks_all_by image (ring_given (is_ring (vword image))) shape asked lists ≡ Ok (tasks, []) → are_task_lists image shape asked lists ≡ true)
    × (are_task_lists image shape asked lists ≡ true → (tasks : List ℕ) × (tasks_all_by image (ring_given (is_ring (vword image))) shape asked lists ≡ Ok (tasks, [])))

-- the threads of tasks are what their lists give
abbrev pub TaskListsGive : Type 0
TaskListsGive =
    (image : Image) (shape : TaskShape) (n m start : ℕ) (lists : Lists)
    → are_task_lists image shape (asked_by n start) lists ≡ true → task_list image shape (asked_by m start) ≡ Ok (task_nodes shape lists)

-- and tasks that are walked have such lists
abbrev pub TasksHaveLists : Type 0
TasksHaveLists =
    (image : Image) (shape : TaskShape) (n m start : ℕ) (tasks : List ℕ)
    → task_list image shape (asked_by m start) ≡ Ok tasks → (lists : Lists) × (are_task_lists image shape (asked_by n start) lists ≡ true) × (task_nodes shape lists ≡ tasks)

-- which are those that a walk keeps
abbrev pub TaskListsAreKept : Type 0
TaskListsAreKept =
    (image : Image) (shape : TaskShape) (n m start : ℕ) (tasks : List ℕ) (lists : Lists)
    → tasks_all_by image (ring_kept image) shape (asked_by m start) [] ≡ Ok (tasks, lists)
    → (are_task_lists image shape (asked_by n start) lists ≡ true) × (task_nodes shape lists ≡ tasks)

-- there are no more threads than numbers in the lists
abbrev pub FewTaskNodes : Type 0
FewTaskNodes = (shape : TaskShape) (lists : Lists) → length (task_nodes shape lists) ≤ numbers lists
