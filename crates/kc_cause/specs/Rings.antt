-- In which list of tasks or of a slab cache a violation lies, and what of it has the pointer.
use Rattle.std.specs.Prelude.{ℕ, List, [], ◌++◌, codes, decimal, Option, Some, option_map, option_and_then}
use Rattle.std.specs.Option.{option_map_or}
use Rattle.kc_btf.specs.Btf.{Types}
use Rattle.kc_layout.specs.Find.{find}
use Rattle.kc_memory.specs.Image.{Image}
use Rattle.kc_text.specs.Text.{hex}
use Rattle.kc_found.specs.Violations.{Violation}
use Rattle.kc_owner.specs.declared.area.shape.AreaShape.{AreaShape}
use Rattle.kc_view.specs.declared.slub.SlubShape.{SlubShape}
use Rattle.kc_view.specs.declared.tasks.TaskShape.{TaskShape}
use Rattle.kc_kinds.specs.declared.kind.Kind.{Kind}
use Rattle.kc_kinds.specs.declared.kind.Kind.TheVariants.{Slub, Tasks as TaskList}
use Rattle.kc_element.specs.declared.element.Element.{Element}
use Rattle.kc_which.specs.declared.caches.CacheRing.{CacheRing}
use Rattle.kc_which.specs.declared.caches.SlabElement.{SlabElement}
use Rattle.kc_which.specs.declared.caches.SlabElement.TheVariants.{Slab, Node}
use Rattle.kc_which.specs.declared.tasks.TaskElement.{TaskElement}
use Rattle.kc_which.specs.declared.tasks.TaskElement.TheVariants.{Task, Signal}
use Rattle.kc_which.specs.declared.tasks.TaskRing.{TaskRing}
use Rattle.kc_which.specs.declared.tasks.TaskRing.TheVariants.{Tasks, Threads, Children}
use Rattle.kc_which.specs.CacheRings.{cache_ring, slab_in}
use Rattle.kc_which.specs.TaskRings.{task_ring, task_in}
use Rattle.kc_element.specs.Confirmed.{leads_back}
use Rattle.kc_cause.specs.Came.{by_lines, came_by}
use Rattle.kc_cause.specs.Lines.{element_lines}

-- the ring of a violation of tasks
abbrev pub task_list_line : TaskRing → List ℕ
task_list_line Tasks = codes "list tasks\n"
task_list_line (Threads leader signal) = codes "list threads of " ++ hex leader ++ codes "\n"
task_list_line (Children parent) = codes "list children of " ++ hex parent ++ codes "\n"

-- what has the pointer, with its type
abbrev pub typed_task : Types → TaskShape → TaskElement → Option Element
typed_task types shape (Task at) = Some (record { ty = shape.task; at = at })
typed_task types shape (Signal at) = option_map (λ ty. record { ty = ty; at = at }) (find types (codes "signal_struct"))

abbrev pub task_lines : Types → TaskShape → Violation → TaskRing → List ℕ
task_lines types shape v ring = task_list_line ring ++ element_lines types (leads_back v.rule) v (option_and_then (typed_task types shape) (task_in shape v ring))

-- where it lies in one, and the word of a task by which the walk came there
abbrev pub found_ring : Types → TaskShape → Violation → Option TaskRing → List ℕ
found_ring types shape v ring = option_map_or (task_lines types shape v) ring []

abbrev pub led_tasks : Types → AreaShape → Image → TaskShape → Violation → Option TaskRing → List ℕ
led_tasks types areas image shape v ring = found_ring types shape v ring ++ by_lines types image shape (came_by image areas shape v ring)

-- the partial list of a violation of a slab cache, by its memory node
abbrev pub cache_list_line : CacheRing → List ℕ
cache_list_line list = codes "list partial of node " ++ decimal list.number ++ codes "\n"

abbrev pub typed_slab : SlubShape → SlabElement → Element
typed_slab shape (Slab at) = record { ty = shape.slab; at = at }
typed_slab shape (Node at) = record { ty = shape.knode; at = at }

abbrev pub cache_lines : Types → SlubShape → Violation → CacheRing → List ℕ
cache_lines types shape v list = cache_list_line list ++ element_lines types (leads_back v.rule) v (option_map (typed_slab shape) (slab_in shape v list))

-- by the kind of the audit
abbrev pub ring_lines : Types → AreaShape → Image → Violation → Kind → List ℕ
ring_lines types areas image v (TaskList shape) = led_tasks types areas image shape v (task_ring image shape v)
ring_lines types areas image v (Slub shape) = option_map_or (cache_lines types shape v) (cache_ring image shape v) []
ring_lines types areas image v _ = []
