-- The word of a task by which the walk of the task list came to where a violation lies: a leader's `signal`, which leads to the list of its threads, or the
-- `stack` of a task. Source: the kernel's include/linux/sched.h, `struct task_struct`.
use Rattle.std.specs.Prelude.{ℕ, ◌/◌, nat_eq, if◌then◌else◌, true, List, [], ◌++◌, codes, Option, Some, None, Result, Ok, Err}
use Rattle.std.specs.Option.{option_map_or}
use Rattle.kc_btf.specs.Btf.{Types}
use Rattle.kc_memory.specs.declared.words.VWord.{VWord}
use Rattle.kc_memory.specs.Image.{Image}
use Rattle.kc_memory.specs.Stopped.{Stopped}
use Rattle.kc_memory.specs.Translation.{vword}
use Rattle.kc_text.specs.Text.{hex}
use Rattle.kc_layout.specs.declared.place.Field.{Field}
use Rattle.kc_layout.specs.MemberPath.MemberPaths.{member_path}
use Rattle.kc_found.specs.Nodes.{at_offset}
use Rattle.kc_found.specs.Violations.{Violation}
use Rattle.kc_view.specs.declared.tasks.TaskShape.{TaskShape}
use Rattle.kc_owner.specs.declared.area.shape.AreaShape.{AreaShape}
use Rattle.kc_owner.specs.declared.area.stacks.InStack.{InStack}
use Rattle.kc_owner.specs.Area.Areas.{areas}
use Rattle.kc_report.specs.Lines.{origin_text}
use Rattle.kc_which.specs.declared.tasks.TaskRing.{TaskRing}
use Rattle.kc_which.specs.declared.tasks.TaskRing.TheVariants.{Tasks, Threads, Children}
use Rattle.kc_cause.specs.declared.came.Member.{Member}
use Rattle.kc_cause.specs.Lines.{path_part}

abbrev pub member_of : ℕ → Field → Member
member_of task f = record { task = task; byte = f.bits.bit / 8 }

-- the one that leads to a ring: the other two rings have their heads in tasks
abbrev pub to_ring : TaskShape → TaskRing → Option Member
to_ring shape Tasks = None
to_ring shape (Threads leader signal) = Some (member_of leader shape.signal)
to_ring shape (Children parent) = None

-- and to an address at which the stack of a task begins
abbrev pub to_start : TaskShape → InStack → Option Member
to_start shape s = if nat_eq s.byte 0 then Some (member_of s.task shape.stack) else None

abbrev pub to_stack : TaskShape → Result (Option InStack) Violation → Option Member
to_stack shape (Ok (Some s)) = to_start shape s
to_stack shape (Ok None) = None
to_stack shape (Err w) = None

-- by the ring in which the violation lies, or where it lies in none by its address
abbrev pub came_by : Image → AreaShape → TaskShape → Violation → Option TaskRing → Option Member
came_by image shapes shape v (Some ring) = to_ring shape ring
came_by image shapes shape v None = to_stack shape (areas image shapes true v.at).stack_found

-- its line: the four columns of a place, and the path of the member
abbrev pub word_part : VWord → List ℕ
word_part w = hex w.va ++ codes " " ++ hex w.pa ++ codes " " ++ origin_text w.off ++ codes " " ++ hex w.value

abbrev pub by_line : Types → TaskShape → Member → VWord → List ℕ
by_line types shape m w = codes "by " ++ word_part w ++ path_part (member_path types shape.task m.byte) ++ codes "\n"

-- where its word can be read
abbrev pub by_word : Types → TaskShape → Member → Result VWord Stopped → List ℕ
by_word types shape m (Ok w) = by_line types shape m w
by_word types shape m (Err s) = []

abbrev pub member_lines : Types → Image → TaskShape → Member → List ℕ
member_lines types image shape m = by_word types shape m (vword image (at_offset m.task m.byte))

abbrev pub by_lines : Types → Image → TaskShape → Option Member → List ℕ
by_lines types image shape member = option_map_or (member_lines types image shape) member []
