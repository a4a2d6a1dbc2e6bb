-- The address of a violation lies in its element.
use Rattle.std.proofs.Common.{◌≡◌, ℕ, ◌+◌, ◌/◌, ◌<◌, ◌^◌, Bool, true, false, nat_eq, Option, Some, None, option_map, refl, subst, arith, codes}
use Rattle.std.specs.Prelude.{if◌then◌else◌, option_and_then}
use Rattle.kc_btf.specs.Btf.{Types}
use Rattle.kc_word.specs.declared.bits.Bits.{Bits}
use Rattle.kc_memory.specs.declared.rule.Rule.{Rule}
use Rattle.kc_memory.specs.declared.rule.Rule.TheVariants.{K, L1, H1, R1, R2, R3, R4, X1, X2, X3, X4, X5, X6, U1, U2, U4, U6, U7, T1, T2, T3, T4, T5, G1, G2, C}
use Rattle.kc_layout.specs.declared.place.Field.{Field}
use Rattle.kc_layout.specs.Find.{find}
use Rattle.kc_found.specs.declared.shapes.HShape.{HShape}
use Rattle.kc_found.specs.declared.shapes.ListShape.{ListShape}
use Rattle.kc_found.specs.declared.shapes.RbShape.{RbShape}
use Rattle.kc_found.specs.Nodes.{at_offset}
use Rattle.kc_found.specs.Violations.{Violation}
use Rattle.kc_found.specs.XaLayouts.{XaLayout}
use Rattle.kc_view.specs.declared.pids.PidShape.{PidShape}
use Rattle.kc_view.specs.declared.slub.SlubShape.{SlubShape}
use Rattle.kc_view.specs.declared.tasks.TaskShape.{TaskShape}
use Rattle.kc_kinds.specs.declared.kind.Kind.{Kind}
use Rattle.kc_kinds.specs.declared.kind.Kind.TheVariants.{Ring, Hlist, Rbtree, Xarray, Slub, Tasks, Pids}
use Rattle.kc_plan.specs.Planned.{AuditAt}
use Rattle.kc_plan.specs.Seen.{container_of}
use Rattle.kc_element.specs.declared.element.Element.{Element}
use Rattle.kc_element.specs.Elements.{by_rule}
use Rattle.kc_element.specs.Kinds.{at_field, first_byte, hash_at, hash_byte, in_kind, kind_byte, node_element, pid_byte, pid_element, ring_byte, ring_node, slab_byte, slab_element, task_byte, task_element, tree_at, tree_byte, typed_at, xa_byte, xa_offset}
use Rattle.kc_element.specs.Laws.{ElementsHold, LiesIn, byte_of}

-- an address lies at such a byte of an element, where there is one
abbrev Holds : Option ℕ → ℕ → Element → Type 0
Holds at_byte at e = (byte : ℕ) × (at_byte ≡ Some byte) × (byte < 2 ^ 64 → LiesIn e at byte)

into_one : (link at : ℕ) → link < 2 ^ 64 → at < 2 ^ 64 → at_offset (container_of link at) link ≡ at
into_one link at fits small = omega arith

into_two : (link byte at : ℕ) → link + byte < 2 ^ 64 → at < 2 ^ 64 → at_offset (container_of link (container_of byte at)) (link + byte) ≡ at
into_two link byte at fits small = omega arith

lies : (ty first at byte : ℕ) → at_offset first byte ≡ at → LiesIn (record { ty = ty; at = first }) at byte
lies ty first at byte into = record { into = into; held = λ size below fits. (omega (arith, into), omega (arith, into)) }

typed_lies : (ty : Option ℕ) (byte at : ℕ) (e : Element) → at < 2 ^ 64 → typed_at ty byte at ≡ Some e → byte < 2 ^ 64 → LiesIn e at byte
typed_lies None byte at e small is fits = absurd (let none : ⊥ = cc in none)
typed_lies (Some ty) byte at e small is fits =
    let same : ◌≡◌ {A = Element} (record { ty = ty; at = container_of byte at }) e = cc in
    subst (λ (e : Element). LiesIn e at byte) same (lies ty (container_of byte at) at byte (into_one byte at fits small))

node_lies : (ty : Option ℕ) (link word at : ℕ) (e : Element) → at < 2 ^ 64 → typed_at ty link (container_of word at) ≡ Some e → link + word < 2 ^ 64 → LiesIn e at (link + word)
node_lies None link word at e small is fits = absurd (let none : ⊥ = cc in none)
node_lies (Some ty) link word at e small is fits =
    let same : ◌≡◌ {A = Element} (record { ty = ty; at = container_of link (container_of word at) }) e = cc in
    subst (λ (e : Element). LiesIn e at (link + word)) same (lies ty (container_of link (container_of word at)) at (link + word) (into_two link word at fits small))

typed_holds : (ty : Option ℕ) (byte at : ℕ) (e : Element) → at < 2 ^ 64 → typed_at ty byte at ≡ Some e → Holds (Some byte) at e
typed_holds ty byte at e small is = (byte, refl, typed_lies ty byte at e small is)

node_holds : (a : AuditAt) (word at : ℕ) (e : Element) → at < 2 ^ 64 → node_element a (container_of word at) ≡ Some e → Holds (Some (a.link + word)) at e
node_holds a word at e small is = (a.link + word, refl, node_lies a.element a.link word at e small is)

-- none is no element
nothing : {at_byte : Option ℕ} {at : ℕ} (e : Element) → ◌≡◌ {A = Option Element} None (Some e) → Holds at_byte at e
nothing e is = absurd (let none : ⊥ = cc in none)

unless_head : (head : Bool) (r : Option Element) (e : Element) → (if head then None else r) ≡ Some e → r ≡ Some e
unless_head true r e is = absurd (let none : ⊥ = cc in none)
unless_head false r e is = is

ring_holds : (a : AuditAt) (shape : ListShape) (rule : Rule) (start at : ℕ) (e : Element) → at < 2 ^ 64
    → option_and_then (λ node. if nat_eq node start then None else node_element a node) (ring_node shape rule at) ≡ Some e → Holds (ring_byte shape a.link rule) at e
ring_holds a shape L1 start at e small is = node_holds a shape.prev at e small (unless_head (nat_eq (container_of shape.prev at) start) _ e is)
ring_holds a shape K start at e small is = node_holds a shape.next at e small (unless_head (nat_eq (container_of shape.next at) start) _ e is)
ring_holds a shape _ start at e small is = nothing e is

of_next : (head : Bool) (a : AuditAt) (next at : ℕ) (e : Element) → at < 2 ^ 64 → option_and_then (node_element a) (if head then None else Some (container_of next at)) ≡ Some e
    → Holds (Some (a.link + next)) at e
of_next true a next at e small is = nothing e is
of_next false a next at e small is = node_holds a next at e small is

hash_holds : (a : AuditAt) (shape : HShape) (rule : Rule) (start at : ℕ) (e : Element) → at < 2 ^ 64
    → option_and_then (node_element a) (hash_at shape start rule at) ≡ Some e → Holds (hash_byte shape a.link rule) at e
hash_holds a shape H1 start at e small is = node_holds a shape.pprev at e small is
hash_holds a shape K start at e small is = of_next (nat_eq at (at_offset start shape.first)) a shape.next at e small is
hash_holds a shape _ start at e small is = nothing e is

of_key : (ty : Option ℕ) (key : Option Bits) (at : ℕ) (e : Element) → at < 2 ^ 64 → option_and_then (λ (k : Bits). typed_at ty (k.bit / 8) at) key ≡ Some e
    → Holds (option_map (λ (k : Bits). k.bit / 8) key) at e
of_key ty None at e small is = nothing e is
of_key ty (Some k) at e small is = typed_holds ty (k.bit / 8) at e small is

tree_holds : (a : AuditAt) (shape : RbShape) (rule : Rule) (at : ℕ) (e : Element) → at < 2 ^ 64 → tree_at a shape rule at ≡ Some e → Holds (tree_byte shape a.link rule) at e
tree_holds a shape R1 at e small is = node_holds a shape.parent_color at e small is
tree_holds a shape R2 at e small is = node_holds a shape.parent_color at e small is
tree_holds a shape R3 at e small is = node_holds a shape.parent_color at e small is
tree_holds a shape R4 at e small is = of_key a.element shape.key at e small is
tree_holds a shape _ at e small is = nothing e is

xa_holds : (ty : Option ℕ) (shape : XaLayout) (rule : Rule) (at : ℕ) (e : Element) → at < 2 ^ 64 → option_and_then (λ (o : ℕ). typed_at ty o at) (xa_offset shape rule) ≡ Some e
    → Holds (xa_byte shape rule) at e
xa_holds ty shape X1 at e small is = typed_holds ty shape.shift at e small is
xa_holds ty shape X2 at e small is = typed_holds ty shape.offset at e small is
xa_holds ty shape X3 at e small is = typed_holds ty shape.parent at e small is
xa_holds ty shape X4 at e small is = typed_holds ty shape.array at e small is
xa_holds ty shape X5 at e small is = typed_holds ty shape.count at e small is
xa_holds ty shape X6 at e small is = typed_holds ty shape.nr_values at e small is
xa_holds ty shape _ at e small is = nothing e is

slab_holds : (shape : SlubShape) (rule : Rule) (at : ℕ) (e : Element) → at < 2 ^ 64 → slab_element shape rule at ≡ Some e → Holds (slab_byte shape rule) at e
slab_holds shape U1 at e small is = typed_holds (Some shape.slab) (first_byte shape.slab_cache) at e small is
slab_holds shape U2 at e small is = typed_holds (Some shape.slab) (first_byte shape.frozen) at e small is
slab_holds shape U4 at e small is = typed_holds (Some shape.slab) 0 at e small is
slab_holds shape U6 at e small is = typed_holds (Some shape.slab) (first_byte shape.inuse) at e small is
slab_holds shape U7 at e small is = typed_holds (Some shape.knode) (first_byte shape.nr_partial) at e small is
slab_holds shape _ at e small is = nothing e is

field_holds : (ty : ℕ) (f : Field) (at : ℕ) (e : Element) → at < 2 ^ 64 → at_field (Some ty) f at ≡ Some e → Holds (Some (first_byte f)) at e
field_holds ty f at e small is = typed_holds (Some ty) (first_byte f) at e small is

task_holds : (shape : TaskShape) (rule : Rule) (at : ℕ) (e : Element) → at < 2 ^ 64 → task_element shape rule at ≡ Some e → Holds (task_byte shape rule) at e
task_holds shape T1 at e small is = field_holds shape.task shape.group_leader at e small is
task_holds shape T2 at e small is = field_holds shape.task shape.pid at e small is
task_holds shape T3 at e small is = field_holds shape.task shape.signal at e small is
task_holds shape T4 at e small is = field_holds shape.task shape.tgid at e small is
task_holds shape T5 at e small is = field_holds shape.task shape.real_parent at e small is
task_holds shape _ at e small is = nothing e is

pid_holds : (types : Types) (shape : PidShape) (rule : Rule) (at : ℕ) (e : Element) → at < 2 ^ 64 → pid_element types shape rule at ≡ Some e → Holds (pid_byte shape rule) at e
pid_holds types shape G1 at e small is = typed_holds (find types (codes "pid")) (first_byte shape.nr) at e small is
pid_holds types shape G2 at e small is = typed_holds (find types (codes "task_struct")) (first_byte shape.thread_pid) at e small is
pid_holds types shape H1 at e small is = (shape.links + shape.chain.pprev, refl, node_lies (find types (codes "task_struct")) shape.links shape.chain.pprev at e small is)
pid_holds types shape rule at e small is = xa_holds (find types (codes "xa_node")) shape.xa rule at e small is

kind_holds : (types : Types) (a : AuditAt) (v : Violation) (e : Element) → v.at < 2 ^ 64 → (kind : Kind) → in_kind types a v kind ≡ Some e → Holds (kind_byte kind a.link v.rule) v.at e
kind_holds types a v e small (Ring shape) is = ring_holds a shape v.rule v.start v.at e small is
kind_holds types a v e small (Hlist shape) is = hash_holds a shape v.rule v.start v.at e small is
kind_holds types a v e small (Rbtree shape) is = tree_holds a shape v.rule v.at e small is
kind_holds types a v e small (Xarray shape) is = xa_holds (find types (codes "xa_node")) shape v.rule v.at e small is
kind_holds types a v e small (Slub shape) is = slab_holds shape v.rule v.at e small is
kind_holds types a v e small (Tasks shape) is = task_holds shape v.rule v.at e small is
kind_holds types a v e small (Pids shape) is = pid_holds types shape v.rule v.at e small is

rule_holds : (types : Types) (a : AuditAt) (v : Violation) (e : Element) → v.at < 2 ^ 64 → (rule : Rule) → v.rule ≡ rule → by_rule types a v rule ≡ Some e → Holds (byte_of a rule) v.at e
rule_holds types a v e small C same is = typed_holds a.element 0 v.at e small is
rule_holds types a v e small rule same is = subst (λ (r : Rule). Holds (kind_byte a.kind a.link r) v.at e) same (kind_holds types a v e small a.kind is)

pub elements_hold : ElementsHold
elements_hold types a v e small is = rule_holds types a v e small v.rule refl is
