-- What the walk of the task list says of finite lists of tasks, and of the dump.
use Rattle.std.specs.Prelude.{◌≡◌, ℕ, List, Ok, Err}
use Rattle.kc_memory.specs.declared.words.VWord.{VWord}
use Rattle.kc_memory.specs.Image.{Image}
use Rattle.kc_memory.specs.Places.{AllStandIn}
use Rattle.kc_memory.specs.Translation.{vword}
use Rattle.kc_view.specs.declared.tasks.TaskShape.{TaskShape}
use Rattle.kc_found.specs.declared.asked.Asked.{Asked}
use Rattle.kc_found.specs.Nodes.{at_offset}
use Rattle.kc_found.specs.Violations.{Violation}
use Rattle.kc_view.specs.declared.tasks.ThreadGroup.{ThreadGroup}
use Rattle.kc_view.specs.FiniteTasks.{Tasks}
use Rattle.kc_view.specs.TaskLists.{task_list, tasks_on, thread_head}

-- a task list of the definition is walked whole, and what is walked without a violation is one
abbrev pub TasksAreWalked : Type 0
TasksAreWalked =
    (image : Image) (shape : TaskShape) (audit start : ℕ) (tasks : List ℕ)
    → (Tasks image shape start tasks → task_list image shape (record { audit = audit; start = start }) ≡ Ok tasks)
    × (task_list image shape (record { audit = audit; start = start }) ≡ Ok tasks → Tasks image shape start tasks)

-- what a violation shows is true of the dump
abbrev pub TaskPlacesStand : Type 0
TaskPlacesStand =
    (image : Image) (shape : TaskShape) (audit start : ℕ) (v : Violation)
    → task_list image shape (record { audit = audit; start = start }) ≡ Err v → AllStandIn image v.places

-- where the ring of a group's threads is walked whole, the `next` of its head can be read: T7 never stops there
abbrev pub HeadIsRead : Type 0
HeadIsRead =
    (image : Image) (asked : Asked) (shape : TaskShape) (g : ThreadGroup) (threads : List ℕ)
    → tasks_on image asked shape (thread_head shape g) shape.thread_node ≡ Ok threads
    → (w : VWord) × (vword image (at_offset (thread_head shape g) shape.list.next) ≡ Ok w)
