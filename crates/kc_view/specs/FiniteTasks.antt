-- What tasks have to meet, to be the threads of the task list. Source: the kernel's include/linux/sched.h,
-- include/linux/sched/signal.h, and kernel/fork.c.
use Rattle.std.specs.Prelude.{◌≡◌, ℕ, true, List, [], ◌∷◌, ◌++◌, map, Some, ◌⊎◌}
use Rattle.std.specs.List.{AllByRecursion}
use Rattle.kc_memory.specs.Image.{Image}
use Rattle.kc_memory.specs.Translation.{vword}
use Rattle.kc_view.specs.declared.tasks.TaskShape.{TaskShape}
use Rattle.kc_view.specs.Fields.{FieldIs}
use Rattle.kc_found.specs.FiniteLists.{Ring, value_of}
use Rattle.kc_found.specs.Nodes.{at_offset}
use Rattle.kc_view.specs.declared.tasks.ThreadGroup.{ThreadGroup}
use Rattle.kc_view.specs.TaskLists.{is_among, stack_end, task_of}

-- the nodes of the ring with this head stand in these tasks, at an offset
pub record AreOn (image : Image) (shape : TaskShape) (head offset : ℕ) (tasks : List ℕ) : Type 0 where
  pub nodes : List ℕ
  pub ring : Ring (vword image) shape.list head nodes
  pub are : map (task_of offset) nodes ≡ tasks

-- there is no stack, or its last word can be read and is the right one
abbrev pub IsStack : Image → ℕ → Type 0
IsStack image stack = (stack ≡ 0) ⊎ (value_of (vword image stack) ≡ Some stack_end)

-- A thread of a group: it has the group's leader, `signal` and `tgid`, each of its children has it as parent, and its
-- stack is whole.
pub record IsThread (image : Image) (shape : TaskShape) (g : ThreadGroup) (thread : ℕ) : Type 0 where
  pub leader : FieldIs image thread shape.group_leader g.leader
  pub signal : FieldIs image thread shape.signal g.signal
  pub tgid : FieldIs image thread shape.tgid g.tgid
  pub children : List ℕ
  pub born : AreOn image shape (at_offset thread shape.children) shape.sibling children
  pub parents : AllByRecursion (λ child. FieldIs image child shape.real_parent thread) children
  pub stack : ℕ
  pub stacked : FieldIs image thread shape.stack stack
  pub whole : IsStack image stack

-- A thread group: its leader leads itself and has its number, the ring has the threads and the leader among them, and
-- each is a thread of the group.
pub record IsGroup (image : Image) (shape : TaskShape) (leader : ℕ) (threads : List ℕ) : Type 0 where
  pub itself : FieldIs image leader shape.group_leader leader
  pub number : ℕ
  pub pid : FieldIs image leader shape.pid number
  pub tgid : FieldIs image leader shape.tgid number
  pub signal : ℕ
  pub shared : FieldIs image leader shape.signal signal
  pub ring : AreOn image shape (at_offset signal shape.thread_head) shape.thread_node threads
  pub among : is_among threads leader ≡ true
  pub members :
      AllByRecursion (IsThread image shape (record { leader = leader; signal = signal; tgid = number })) threads

-- the threads of these leaders' groups, one group after the other
abbrev pub AreGroups : Image → TaskShape → List ℕ → List ℕ → Type 0
AreGroups image shape [] tasks = tasks ≡ []
AreGroups image shape (l ∷ ls) tasks =
    (threads : List ℕ) × (others : List ℕ)
    × IsGroup image shape l threads × AreGroups image shape ls others × (threads ++ others ≡ tasks)

-- The task list: the ring has the leaders but the first, which it starts at, and the tasks are those of their groups.
pub record Tasks (image : Image) (shape : TaskShape) (start : ℕ) (tasks : List ℕ) : Type 0 where
  pub others : List ℕ
  pub ring : AreOn image shape (at_offset start shape.tasks) shape.tasks others
  pub groups : AreGroups image shape (start ∷ others) tasks

-- no tasks make it up
abbrev pub NoTasks : Image → TaskShape → ℕ → Type 0
NoTasks image shape start = (tasks : List ℕ) → Tasks image shape start tasks → ⊥
