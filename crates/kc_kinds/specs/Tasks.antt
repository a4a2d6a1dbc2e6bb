-- Where the fields of tasks stand. Source: the kernel's include/linux/sched.h, `struct task_struct`, and
-- include/linux/sched/signal.h, `struct signal_struct`.
use Rattle.std.specs.Prelude.{◌≤◌, ℕ, true, codes, Option, Some}
use Rattle.kc_btf.specs.Btf.{Types}
use Rattle.kc_view.specs.declared.tasks.TaskShape.{TaskShape}
use Rattle.kc_kinds.specs.declared.row.Row.{Row}
use Rattle.kc_kinds.specs.declared.tasks.TaskNumbers.{TaskNumbers}
use Rattle.kc_kinds.specs.declared.tasks.TaskRings.{TaskRings}
use Rattle.kc_kinds.specs.Members.{◌>>=◌, inner_in, scalar_in, struct_named}
use Rattle.kc_kinds.specs.Ring.{list_words}

-- what tasks need of a kernel
abbrev pub task_row : Types → Row
task_row types = record {
  head = struct_named types (codes "task_struct");
  node = struct_named types (codes "list_head");
  element = struct_named types (codes "task_struct");
  named = true;
  clear = true;
}

-- the numbers of a task
unfoldable pub task_numbers : Types → Option ℕ → Option TaskNumbers
task_numbers types task = do
  pid ← scalar_in types task (codes "pid")
  tgid ← scalar_in types task (codes "tgid")
  real_parent ← scalar_in types task (codes "real_parent")
  group_leader ← scalar_in types task (codes "group_leader")
  signal ← scalar_in types task (codes "signal")
  stack ← scalar_in types task (codes "stack")
  Some (record {
    pid = pid;
    tgid = tgid;
    real_parent = real_parent;
    group_leader = group_leader;
    signal = signal;
    stack = stack;
  })

-- its nodes and heads of rings, and the head that its thread group shares
unfoldable pub task_rings : Types → Option ℕ → Option ℕ → Option ℕ → Option TaskRings
task_rings types list task signal = do
  tasks ← inner_in types list task (codes "tasks")
  children ← inner_in types list task (codes "children")
  sibling ← inner_in types list task (codes "sibling")
  thread_node ← inner_in types list task (codes "thread_node")
  thread_head ← inner_in types list signal (codes "thread_head")
  Some (record {
    tasks = tasks;
    children = children;
    sibling = sibling;
    thread_node = thread_node;
    thread_head = thread_head;
  })

-- where the fields of tasks stand, in a kernel that has them
unfoldable pub task_words : Types → Row → Option TaskShape
task_words types needs = do
  task ← needs.head
  list ← list_words types needs.node
  numbers ← task_numbers types needs.head
  rings ← task_rings types needs.node needs.head (struct_named types (codes "signal_struct"))
  Some (record {
    task = task;
    list = list;
    tasks = rings.tasks;
    pid = numbers.pid;
    tgid = numbers.tgid;
    real_parent = numbers.real_parent;
    children = rings.children;
    sibling = rings.sibling;
    group_leader = numbers.group_leader;
    signal = numbers.signal;
    thread_head = rings.thread_head;
    thread_node = rings.thread_node;
    stack = numbers.stack;
  })

-- the types of these numbers are among so many
pub record AreNumbersInside (count : ℕ) (numbers : TaskNumbers) : Type 0 where
  pub pid : numbers.pid.ty ≤ count
  pub tgid : numbers.tgid.ty ≤ count
  pub real_parent : numbers.real_parent.ty ≤ count
  pub group_leader : numbers.group_leader.ty ≤ count
  pub signal : numbers.signal.ty ≤ count
  pub stack : numbers.stack.ty ≤ count
