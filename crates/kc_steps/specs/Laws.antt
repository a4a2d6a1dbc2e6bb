-- What walks by a way to come by chains say of the walks of kc_view.
use Rattle.std.specs.Prelude.{◌++◌, ◌≡◌, ℕ, List, [], Ok}
use Rattle.kc_memory.specs.Image.{Image}
use Rattle.kc_view.specs.declared.pids.PidShape.{PidShape}
use Rattle.kc_view.specs.declared.slub.SlubShape.{SlubShape}
use Rattle.kc_view.specs.declared.tasks.TaskShape.{TaskShape}
use Rattle.kc_view.specs.Caches.{cache_slabs}
use Rattle.kc_view.specs.PidTables.{pid_checked}
use Rattle.kc_view.specs.TaskLists.{all_pass, task_list}
use Rattle.kc_found.specs.declared.asked.Asked.{Asked}
use Rattle.kc_found.specs.declared.xarrays.XaItem.{XaItem}
use Rattle.kc_found.specs.Trials.{and_then}
use Rattle.kc_steps.specs.CachesBy.{cache_by, cache_lists}
use Rattle.kc_steps.specs.Chains.{FreeBy, HashBy, Lists, RingBy, TakesFree, TakesHashes, TakesRings, WalksFree, WalksHashes, WalksRings, alone, free_kept, free_walked, hash_kept, hash_walked, ring_kept, ring_walked}
use Rattle.kc_steps.specs.PidsBy.{pid_lists, pids_by}
use Rattle.kc_steps.specs.TasksBy.{task_lists, tasks_all_by}

-- chains that are walked, or walked and kept, are those of the walks
abbrev pub ChainsAreWalked : Type 0
ChainsAreWalked = (image : Image) → WalksRings image (ring_walked image) × WalksFree image (free_walked image)

abbrev pub ChainsAreKept : Type 0
ChainsAreKept = (image : Image) → WalksRings image (ring_kept image) × WalksFree image (free_kept image)

-- the lists apart, such a walk of a cache is its walk
abbrev pub CachesAgree : Type 0
CachesAgree =
    (image : Image) (ring : RingBy) (free : FreeBy) (shape : SlubShape) (asked : Asked) (lists : Lists) → WalksRings image ring → WalksFree image free
    → alone (cache_by image ring free shape asked lists) ≡ cache_slabs image shape asked

-- and such a walk of tasks is theirs
abbrev pub TasksAgree : Type 0
TasksAgree =
    (image : Image) (ring : RingBy) (shape : TaskShape) (asked : Asked) (lists : Lists) → WalksRings image ring
    → alone (tasks_all_by image ring shape asked lists) ≡ task_list image shape asked

-- the lists of a cache are there exactly where its slabs are
abbrev pub CacheListsAreWalked : Type 0
CacheListsAreWalked =
    (image : Image) (shape : SlubShape) (asked : Asked)
    → ((lists : Lists) → cache_lists image shape asked ≡ Ok lists → (slabs : List ℕ) × (cache_slabs image shape asked ≡ Ok slabs))
    × ((slabs : List ℕ) → cache_slabs image shape asked ≡ Ok slabs → (lists : Lists) × (cache_lists image shape asked ≡ Ok lists))

-- and so are those of tasks
abbrev pub TaskListsAreWalked : Type 0
TaskListsAreWalked =
    (image : Image) (shape : TaskShape) (asked : Asked)
    → ((lists : Lists) → task_lists image shape asked ≡ Ok lists → (tasks : List ℕ) × (task_list image shape asked ≡ Ok tasks))
    × ((tasks : List ℕ) → task_list image shape asked ≡ Ok tasks → (lists : Lists) × (task_lists image shape asked ≡ Ok lists))

-- lists that a walk of a cache uses up, where its chains take them, are the lists of the cache, and its slabs are those of the walk
abbrev pub CacheListsAreTaken : Type 0
CacheListsAreTaken =
    (image : Image) (ring : RingBy) (free : FreeBy) → TakesRings image ring → TakesFree image free → (shape : SlubShape) (asked : Asked) (lists : Lists)
    → ((slabs : List ℕ) → cache_by image ring free shape asked lists ≡ Ok (slabs, []) → (cache_lists image shape asked ≡ Ok lists) × (cache_slabs image shape asked ≡ Ok slabs))
    × (cache_lists image shape asked ≡ Ok lists → (slabs : List ℕ) × (cache_by image ring free shape asked lists ≡ Ok (slabs, [])) × (cache_slabs image shape asked ≡ Ok slabs))

-- and so are those of tasks
abbrev pub TaskListsAreTaken : Type 0
TaskListsAreTaken =
    (image : Image) (ring : RingBy) → TakesRings image ring → (shape : TaskShape) (asked : Asked) (lists : Lists)
    → ((tasks : List ℕ) → tasks_all_by image ring shape asked lists ≡ Ok (tasks, []) → (task_lists image shape asked ≡ Ok lists) × (task_list image shape asked ≡ Ok tasks))
    × (task_lists image shape asked ≡ Ok lists → (tasks : List ℕ) × (tasks_all_by image ring shape asked lists ≡ Ok (tasks, [])) × (task_list image shape asked ≡ Ok tasks))

-- so are hash chains that are walked, or walked and kept
abbrev pub HashesAreWalked : Type 0
HashesAreWalked = (image : Image) → WalksHashes image (hash_walked image) × WalksHashes image (hash_kept image)

-- the lists apart, such a walk of process ids is theirs
abbrev pub PidsAgree : Type 0
PidsAgree =
    (image : Image) (hash : HashBy) (shape : PidShape) (asked : Asked) (items : List XaItem) (lists : Lists) → WalksHashes image hash
    → and_then (pids_by image hash shape asked items lists) (λ _. Ok tt) ≡ all_pass (pid_checked image asked shape) items

-- the lists of process ids are there exactly where each of them passes
abbrev pub PidListsAreWalked : Type 0
PidListsAreWalked =
    (image : Image) (shape : PidShape) (asked : Asked) (items : List XaItem)
    → ((lists : Lists) → pid_lists image shape asked items ≡ Ok lists → all_pass (pid_checked image asked shape) items ≡ Ok tt)
    × (all_pass (pid_checked image asked shape) items ≡ Ok tt → (lists : Lists) × (pid_lists image shape asked items ≡ Ok lists))

-- lists that a walk of process ids uses up, where its hash chains take them, are their lists
abbrev pub PidListsAreTaken : Type 0
PidListsAreTaken =
    (image : Image) (hash : HashBy) → TakesHashes image hash → (shape : PidShape) (asked : Asked) (items : List XaItem) (lists : Lists)
    → (pids_by image hash shape asked items lists ≡ Ok [] → pid_lists image shape asked items ≡ Ok lists)
    × (pid_lists image shape asked items ≡ Ok lists → pids_by image hash shape asked items lists ≡ Ok [])

-- lists that a walk keeps behind others are just those, whatever stands before them
abbrev pub PidListsAreBehind : Type 0
PidListsAreBehind =
    (image : Image) (hash : HashBy) → TakesHashes image hash → (shape : PidShape) (asked : Asked) (items : List XaItem) (before after : Lists)
    → pids_by image (hash_kept image) shape asked items before ≡ Ok after → (lists : Lists) × (after ≡ before ++ lists) × (pids_by image hash shape asked items lists ≡ Ok [])
