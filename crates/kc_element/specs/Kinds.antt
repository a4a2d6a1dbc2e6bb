-- What the rules of each kind are about: the element by the address, the byte of the element at which the address lies, and where the number stands.
use Rattle.std.specs.Prelude.{ℕ, ◌+◌, ◌/◌, ◌%◌, nat_eq, if◌then◌else◌, codes, Option, Some, None, option_map, option_and_then}
use Rattle.kc_btf.specs.Btf.{Types}
use Rattle.kc_memory.specs.declared.rule.Rule.{Rule}
use Rattle.kc_memory.specs.declared.rule.Rule.TheVariants.{K, L1, H1, R1, R2, R3, R4, R6, X1, X2, X3, X4, X5, X6, U1, U2, U4, U6, U7, T1, T2, T3, T4, T5, T6, G1, G2}
use Rattle.kc_layout.specs.declared.place.Field.{Field}
use Rattle.kc_layout.specs.Find.{find}
use Rattle.kc_found.specs.declared.shapes.HShape.{HShape}
use Rattle.kc_found.specs.declared.shapes.ListShape.{ListShape}
use Rattle.kc_found.specs.declared.shapes.RbShape.{RbShape}
use Rattle.kc_found.specs.Nodes.{at_offset}
use Rattle.kc_found.specs.Violations.{Violation}
use Rattle.kc_found.specs.XaLayouts.{XaLayout}
use Rattle.kc_view.specs.declared.pids.PidShape.{PidShape}
use Rattle.kc_view.specs.declared.slub.SlubShape.{SlubShape}
use Rattle.kc_view.specs.declared.tasks.TaskShape.{TaskShape}
use Rattle.kc_kinds.specs.declared.kind.Kind.{Kind}
use Rattle.kc_kinds.specs.declared.kind.Kind.TheVariants.{Ring, Hlist, Rbtree, Xarray, Slub, Tasks, Pids}
use Rattle.kc_plan.specs.Planned.{AuditAt}
use Rattle.kc_plan.specs.Seen.{container_of}
use Rattle.kc_element.specs.declared.element.Element.{Element}
use Rattle.kc_element.specs.declared.number.Spot.{Spot}
use Rattle.kc_element.specs.declared.number.Spot.TheVariants.{Word, Parent, Bits}

-- something of a type that may be known, so many bytes before an address
abbrev pub typed_at : Option ℕ → ℕ → ℕ → Option Element
typed_at ty byte at = option_map (λ t. record { ty = t; at = container_of byte at }) ty

-- what has a field, whose first byte stands at an address
abbrev pub at_field : Option ℕ → Field → ℕ → Option Element
at_field ty f at = typed_at ty (f.bits.bit / 8) at

-- the element of an audit that has a node
abbrev pub node_element : AuditAt → ℕ → Option Element
node_element a node = typed_at a.element a.link node

-- the node of a ring whose pointer breaks a rule: L1 is about `prev`, and K about `next`
abbrev pub ring_node : ListShape → Rule → ℕ → Option ℕ
ring_node shape L1 at = Some (container_of shape.prev at)
ring_node shape K at = Some (container_of shape.next at)
ring_node shape _ at = None

-- the head of a ring is no element's node
abbrev pub ring_element : AuditAt → ListShape → Violation → Option Element
ring_element a shape v = option_and_then (λ node. if nat_eq node v.start then None else node_element a node) (ring_node shape v.rule v.at)

-- the node of a hash chain whose pointer breaks a rule: H1 is about `pprev`, and K about `next`, or about the pointer of the head, which
-- is no node's
abbrev pub hash_at : HShape → ℕ → Rule → ℕ → Option ℕ
hash_at shape start H1 at = Some (container_of shape.pprev at)
hash_at shape start K at = if nat_eq at (at_offset start shape.first) then None else Some (container_of shape.next at)
hash_at shape start _ at = None

abbrev pub hash_node : HShape → Violation → Option ℕ
hash_node shape v = hash_at shape v.start v.rule v.at

abbrev pub hash_element : AuditAt → HShape → Violation → Option Element
hash_element a shape v = option_and_then (node_element a) (hash_node shape v)

-- the element of a tree whose node's word or key breaks a rule
abbrev pub tree_at : AuditAt → RbShape → Rule → ℕ → Option Element
tree_at a shape R1 at = node_element a (container_of shape.parent_color at)
tree_at a shape R2 at = node_element a (container_of shape.parent_color at)
tree_at a shape R3 at = node_element a (container_of shape.parent_color at)
tree_at a shape R4 at = option_and_then (λ key. typed_at a.element (key.bit / 8) at) shape.key
tree_at a shape _ at = None

abbrev pub tree_element : AuditAt → RbShape → Violation → Option Element
tree_element a shape v = tree_at a shape v.rule v.at

-- the offset in a node of an xarray of what a rule is about
abbrev pub xa_offset : XaLayout → Rule → Option ℕ
xa_offset shape X1 = Some shape.shift
xa_offset shape X2 = Some shape.offset
xa_offset shape X3 = Some shape.parent
xa_offset shape X4 = Some shape.array
xa_offset shape X5 = Some shape.count
xa_offset shape X6 = Some shape.nr_values
xa_offset shape _ = None

abbrev pub xa_element : Types → XaLayout → Rule → ℕ → Option Element
xa_element types shape rule at = option_and_then (λ offset. typed_at (find types (codes "xa_node")) offset at) (xa_offset shape rule)

-- the slab, or the node of a cache, of which a rule is
abbrev pub slab_element : SlubShape → Rule → ℕ → Option Element
slab_element shape U1 at = at_field (Some shape.slab) shape.slab_cache at
slab_element shape U2 at = at_field (Some shape.slab) shape.frozen at
slab_element shape U4 at = typed_at (Some shape.slab) 0 at
slab_element shape U6 at = at_field (Some shape.slab) shape.inuse at
slab_element shape U7 at = at_field (Some shape.knode) shape.nr_partial at
slab_element shape _ at = None

-- the field of a task that a rule is about
abbrev pub task_field : TaskShape → Rule → Option Field
task_field shape T1 = Some shape.group_leader
task_field shape T2 = Some shape.pid
task_field shape T3 = Some shape.signal
task_field shape T4 = Some shape.tgid
task_field shape T5 = Some shape.real_parent
task_field shape _ = None

abbrev pub task_element : TaskShape → Rule → ℕ → Option Element
task_element shape rule at = option_and_then (λ f. at_field (Some shape.task) f at) (task_field shape rule)

-- the node of the table, the process id or the task of which a rule is
abbrev pub pid_element : Types → PidShape → Rule → ℕ → Option Element
pid_element types shape G1 at = at_field (find types (codes "pid")) shape.nr at
pid_element types shape G2 at = at_field (find types (codes "task_struct")) shape.thread_pid at
pid_element types shape H1 at = typed_at (find types (codes "task_struct")) shape.links (container_of shape.chain.pprev at)
pid_element types shape rule at = xa_element types shape.xa rule at

-- by the kind of an audit
abbrev pub in_kind : Types → AuditAt → Violation → Kind → Option Element
in_kind types a v (Ring shape) = ring_element a shape v
in_kind types a v (Hlist shape) = hash_element a shape v
in_kind types a v (Rbtree shape) = tree_element a shape v
in_kind types a v (Xarray shape) = xa_element types shape v.rule v.at
in_kind types a v (Slub shape) = slab_element shape v.rule v.at
in_kind types a v (Tasks shape) = task_element shape v.rule v.at
in_kind types a v (Pids shape) = pid_element types shape v.rule v.at

abbrev pub kind_element : Types → AuditAt → Violation → Option Element
kind_element types a v = in_kind types a v a.kind

-- a field begins at this byte of its struct
abbrev pub first_byte : Field → ℕ
first_byte f = f.bits.bit / 8

-- The byte of an element at which the address of a rule lies: a node stands at the audit's byte, and a word at its own byte of the node; a key, or
-- a field, stands at its byte of the element. By the kind of the audit:
abbrev pub ring_byte : ListShape → ℕ → Rule → Option ℕ
ring_byte shape link L1 = Some (link + shape.prev)
ring_byte shape link K = Some (link + shape.next)
ring_byte shape link _ = None

abbrev pub hash_byte : HShape → ℕ → Rule → Option ℕ
hash_byte shape link H1 = Some (link + shape.pprev)
hash_byte shape link K = Some (link + shape.next)
hash_byte shape link _ = None

abbrev pub tree_byte : RbShape → ℕ → Rule → Option ℕ
tree_byte shape link R1 = Some (link + shape.parent_color)
tree_byte shape link R2 = Some (link + shape.parent_color)
tree_byte shape link R3 = Some (link + shape.parent_color)
tree_byte shape link R4 = option_map (λ key. key.bit / 8) shape.key
tree_byte shape link _ = None

abbrev pub xa_byte : XaLayout → Rule → Option ℕ
xa_byte shape X1 = Some shape.shift
xa_byte shape X2 = Some shape.offset
xa_byte shape X3 = Some shape.parent
xa_byte shape X4 = Some shape.array
xa_byte shape X5 = Some shape.count
xa_byte shape X6 = Some shape.nr_values
xa_byte shape _ = None

abbrev pub slab_byte : SlubShape → Rule → Option ℕ
slab_byte shape U1 = Some (first_byte shape.slab_cache)
slab_byte shape U2 = Some (first_byte shape.frozen)
slab_byte shape U4 = Some 0
slab_byte shape U6 = Some (first_byte shape.inuse)
slab_byte shape U7 = Some (first_byte shape.nr_partial)
slab_byte shape _ = None

abbrev pub task_byte : TaskShape → Rule → Option ℕ
task_byte shape T1 = Some (first_byte shape.group_leader)
task_byte shape T2 = Some (first_byte shape.pid)
task_byte shape T3 = Some (first_byte shape.signal)
task_byte shape T4 = Some (first_byte shape.tgid)
task_byte shape T5 = Some (first_byte shape.real_parent)
task_byte shape _ = None

abbrev pub pid_byte : PidShape → Rule → Option ℕ
pid_byte shape G1 = Some (first_byte shape.nr)
pid_byte shape G2 = Some (first_byte shape.thread_pid)
pid_byte shape H1 = Some (shape.links + shape.chain.pprev)
pid_byte shape rule = xa_byte shape.xa rule

abbrev pub kind_byte : Kind → ℕ → Rule → Option ℕ
kind_byte (Ring shape) link rule = ring_byte shape link rule
kind_byte (Hlist shape) link rule = hash_byte shape link rule
kind_byte (Rbtree shape) link rule = tree_byte shape link rule
kind_byte (Xarray shape) link rule = xa_byte shape rule
kind_byte (Slub shape) link rule = slab_byte shape rule
kind_byte (Tasks shape) link rule = task_byte shape rule
kind_byte (Pids shape) link rule = pid_byte shape rule

-- where the number of a field stands: from a bit of its first byte on
abbrev pub field_spot : Field → Spot
field_spot f = Bits (f.bits.bit % 8) f.bits.width

-- where the number stands that a rule of a ring, of a hash chain, of a red-black tree, .. is about
abbrev pub ring_spot : Rule → Option Spot
ring_spot L1 = Some Word
ring_spot _ = None

abbrev pub hash_spot : Rule → Option Spot
hash_spot H1 = Some Word
hash_spot _ = None

abbrev pub tree_spot : Rule → Option Spot
tree_spot R1 = Some Parent
tree_spot R2 = Some Word
tree_spot R3 = Some Word
tree_spot R6 = Some Word
tree_spot _ = None

abbrev pub xa_spot : Rule → Option Spot
xa_spot X1 = Some (Bits 0 8)
xa_spot X2 = Some (Bits 0 8)
xa_spot X3 = Some Word
xa_spot X4 = Some Word
xa_spot X5 = Some (Bits 0 8)
xa_spot X6 = Some (Bits 0 8)
xa_spot _ = None

abbrev pub slab_spot : SlubShape → Rule → Option Spot
slab_spot shape L1 = Some Word
slab_spot shape U1 = Some (field_spot shape.slab_cache)
slab_spot shape U2 = Some (field_spot shape.frozen)
slab_spot shape U7 = Some (field_spot shape.nr_partial)
slab_spot shape _ = None

abbrev pub task_spot : TaskShape → Rule → Option Spot
task_spot shape L1 = Some Word
task_spot shape T1 = Some (field_spot shape.group_leader)
task_spot shape T2 = Some (field_spot shape.pid)
task_spot shape T3 = Some (field_spot shape.signal)
task_spot shape T4 = Some (field_spot shape.tgid)
task_spot shape T5 = Some (field_spot shape.real_parent)
task_spot shape T6 = Some Word
task_spot shape _ = None

abbrev pub pid_spot : PidShape → Rule → Option Spot
pid_spot shape H1 = Some Word
pid_spot shape G1 = Some (field_spot shape.nr)
pid_spot shape G2 = Some (field_spot shape.thread_pid)
pid_spot shape rule = xa_spot rule

-- by the kind of an audit
abbrev pub number_spot : Kind → Rule → Option Spot
number_spot (Ring shape) rule = ring_spot rule
number_spot (Hlist shape) rule = hash_spot rule
number_spot (Rbtree shape) rule = tree_spot rule
number_spot (Xarray shape) rule = xa_spot rule
number_spot (Slub shape) rule = slab_spot shape rule
number_spot (Tasks shape) rule = task_spot shape rule
number_spot (Pids shape) rule = pid_spot shape rule
