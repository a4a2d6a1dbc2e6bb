-- Which lists a step of a certificate has, of a slab cache, of tasks and of process ids, in the words of these structures.
use Rattle.std.specs.Prelude.{◌≡◌, ℕ, suc, ◌⊎◌, ⊤, List, [], ◌∷◌, ◌++◌, length, map, Ok}
use Rattle.std.specs.List.{AllZip}
use Rattle.kc_memory.specs.Bits.{Number}
use Rattle.kc_memory.specs.Image.{Image}
use Rattle.kc_memory.specs.Translation.{vword}
use Rattle.kc_view.specs.declared.pids.PidShape.{PidShape}
use Rattle.kc_view.specs.declared.slub.SlabObjects.{SlabObjects}
use Rattle.kc_view.specs.declared.slub.SlubBases.{SlubBases}
use Rattle.kc_view.specs.declared.slub.SlubShape.{SlubShape}
use Rattle.kc_view.specs.Caches.{bases_of, grid_of, node_at, objects_of, slab_of}
use Rattle.kc_view.specs.declared.tasks.TaskShape.{TaskShape}
use Rattle.kc_view.specs.declared.tasks.ThreadGroup.{ThreadGroup}
use Rattle.kc_view.specs.Fields.{FieldIs}
use Rattle.kc_view.specs.TaskLists.{group_of, task_of, thread_head}
use Rattle.kc_found.specs.declared.asked.Asked.{Asked}
use Rattle.kc_found.specs.declared.xarrays.XaItem.{XaItem}
use Rattle.kc_found.specs.FiniteLists.{FreeChain, HChain, Ring}
use Rattle.kc_found.specs.FreeLists.{low_word, number_in}
use Rattle.kc_found.specs.Nodes.{at_offset}
use Rattle.kc_steps.specs.CachesBy.{cache_lists}
use Rattle.kc_steps.specs.Chains.{Lists}
use Rattle.kc_steps.specs.PidsBy.{pid_lists}
use Rattle.kc_steps.specs.TasksBy.{task_lists}

-- the free list of the slab that has a node of a ring of partial slabs
pub record IsFreeList (image : Image) (shape : SlubShape) (b : SlubBases) (o : SlabObjects) (node : ℕ) (os : List ℕ) : Type 0 where
  pub objects : ℕ
  pub counted : FieldIs image (slab_of shape node) shape.objects objects
  pub first : ℕ
  pub freelist : FieldIs image (slab_of shape node) shape.freelist first
  pub chain : FreeChain (number_in image) (grid_of shape b o (slab_of shape node) objects) first os

-- the lists of a memory node: its ring of partial slabs, and then the free list of each of these, in the ring's order
pub record IsRingWith (image : Image) (shape : SlubShape) (b : SlubBases) (o : SlabObjects) (knode : ℕ) (lists : Lists) : Type 0 where
  pub nodes : List ℕ
  pub free : Lists
  pub parts : lists ≡ nodes ∷ free
  pub ring : Ring (vword image) shape.list (at_offset knode shape.partial) nodes
  pub slabs : AllZip (IsFreeList image shape b o) nodes free

-- those of a pointer of the array `node`: a null one has none
pub record IsNode (image : Image) (asked : Asked) (shape : SlubShape) (b : SlubBases) (o : SlabObjects) (i : ℕ) (lists : Lists) : Type 0 where
  pub pointer : Number
  pub read : number_in image (node_at asked shape i) ≡ Ok pointer
  pub are : ((low_word pointer.value ≡ 0) × (lists ≡ [])) ⊎ IsRingWith image shape b o (low_word pointer.value) lists

abbrev pub AreNodes : Image → Asked → SlubShape → SlubBases → SlabObjects → ℕ → List Lists → Type 0
AreNodes image asked shape b o i [] = ⊤
AreNodes image asked shape b o i (lists ∷ others) = IsNode image asked shape b o i lists × AreNodes image asked shape b o (suc i) others

-- the lists of several, one after the other
abbrev pub one_after_other : List Lists → Lists
one_after_other [] = []
one_after_other (lists ∷ others) = lists ++ one_after_other others

-- the lists of a cache: those of each of its memory nodes, in their order
pub record AreOfCache (image : Image) (asked : Asked) (shape : SlubShape) (lists : Lists) : Type 0 where
  pub bases : SlubBases
  pub stand : bases_of image asked shape ≡ Ok bases
  pub objects : SlabObjects
  pub lie : objects_of image asked shape ≡ Ok objects
  pub by_node : List Lists
  pub all : length by_node ≡ bases.nodes
  pub nodes : AreNodes image asked shape bases objects 0 by_node
  pub are : lists ≡ one_after_other by_node

abbrev pub CacheListsAre : Type 0
CacheListsAre = (image : Image) (shape : SlubShape) (asked : Asked) (lists : Lists) → cache_lists image shape asked ≡ Ok lists → AreOfCache image asked shape lists

-- the ring of a task's children
abbrev pub AreChildren : Image → TaskShape → ℕ → List ℕ → Type 0
AreChildren image shape task nodes = Ring (vword image) shape.list (at_offset task shape.children) nodes

-- the lists of a leader: the ring of its threads, and then the ring of the children of each of these, in the ring's order
pub record IsGroup (image : Image) (asked : Asked) (shape : TaskShape) (leader : ℕ) (lists : Lists) : Type 0 where
  pub group : ThreadGroup
  pub led : group_of image asked shape leader ≡ Ok group
  pub nodes : List ℕ
  pub children : Lists
  pub parts : lists ≡ nodes ∷ children
  pub ring : Ring (vword image) shape.list (thread_head shape group) nodes
  pub threads : AllZip (AreChildren image shape) (map (task_of shape.thread_node) nodes) children

-- the lists of tasks: the ring of leaders, and then those of each leader, the first of which is where the ring starts
pub record AreOfTasks (image : Image) (asked : Asked) (shape : TaskShape) (lists : Lists) : Type 0 where
  pub nodes : List ℕ
  pub ring : Ring (vword image) shape.list (at_offset asked.start shape.tasks) nodes
  pub groups : List Lists
  pub leaders : AllZip (IsGroup image asked shape) (asked.start ∷ map (task_of shape.tasks) nodes) groups
  pub are : lists ≡ nodes ∷ one_after_other groups

abbrev pub TaskListsAre : Type 0
TaskListsAre = (image : Image) (shape : TaskShape) (asked : Asked) (lists : Lists) → task_lists image shape asked ≡ Ok lists → AreOfTasks image asked shape lists

-- the lists of process ids behind that of their table: for each, in the table's order, the chain of its tasks
abbrev pub IsPidList : Image → PidShape → XaItem → List ℕ → Type 0
IsPidList image shape item nodes = HChain (vword image) shape.chain (at_offset item.entry shape.tasks) nodes

abbrev pub PidListsAre : Type 0
PidListsAre =
    (image : Image) (shape : PidShape) (asked : Asked) (items : List XaItem) (lists : Lists)
    → pid_lists image shape asked items ≡ Ok lists → AllZip (IsPidList image shape) items lists
