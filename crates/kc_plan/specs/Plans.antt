-- The plan of bytes over a kernel's types and symbols, or its first fault.
use Rattle.std.specs.Prelude.{ℕ, List, [], ◌∷◌, ◌++◌, length, not, ◌&&◌, ◌==◌, Bool, is_some, Option, Some, None, unwrap_or, option_and_then, slice_get, Result, Ok, Err, if◌then◌else◌}
use Rattle.std.specs.Option.{ok_or}
use Rattle.kc_btf.specs.Btf.{Types}
use Rattle.kc_layout.specs.declared.fault.PathFault.{PathFault}
use Rattle.kc_layout.specs.Ends.{BitsAt, ByteAt, NumberAt, field, located}
use Rattle.kc_layout.specs.Find.{find}
use Rattle.kc_syms.specs.declared.fault.SymFault.{SymFault}
use Rattle.kc_expr.specs.declared.keys.fault.PRule.{PRule}
use Rattle.kc_expr.specs.declared.keys.fault.PRule.TheVariants.{P9, P10, P11}
use Rattle.kc_expr.specs.declared.keys.fault.PlanFault.{PlanFault}
use Rattle.kc_expr.specs.declared.keys.fault.PlanKey.TheVariants as key
use Rattle.kc_plan.specs.declared.item.Link.{Link}
use Rattle.kc_kinds.specs.declared.kind.Kind.{Kind}
use Rattle.kc_kinds.specs.declared.row.Row.{Row}
use Rattle.kc_plan.specs.Audits.{AuditText, StartText}
use Rattle.kc_plan.specs.CheckTexts.{checks_for}
use Rattle.kc_kinds.specs.Kernels.{Kernel, address_in}
use Rattle.kc_kinds.specs.Kinds.{row, shape}
use Rattle.kc_plan.specs.Links.{above_of, links_for}
use Rattle.kc_plan.specs.Planned.{AuditAt, PlanAt, StartAt}
use Rattle.kc_plan.specs.Planned.StartAt.{RootAt, FromAt}
use Rattle.kc_kinds.specs.Members.{is_struct}
use Rattle.kc_plan.specs.Steps.{document, parsed, written_for}
use Rattle.kc_plan.specs.Values.{◌>>=◌, at, refuse_if}

-- where a path led, where that is this struct
abbrev pub struct_at : Types → Option ℕ → Result ByteAt PathFault → Result ByteAt PRule
struct_at types wanted (Err fault) = Err P10
struct_at types wanted (Ok place) = if is_struct types place.ty wanted then Ok place else Err P10

-- the type with a name
abbrev pub type_named : Types → List ℕ → Result ℕ PRule
type_named types name = ok_or (find types name) P10

-- the address of a symbol
abbrev pub addressed : Result ℕ SymFault → Result ℕ PRule
addressed (Ok address) = Ok address
addressed (Err fault) = Err P9

-- the first byte of a type
abbrev pub first_byte : ℕ → ByteAt
first_byte ty = record { hops = []; byte = 0; ty = ty }

-- where a root audit begins. Without a type the symbol is the head itself. Where its struct is missing, the audit is
-- refused later: a ring at its `link` at the latest, by P10, since its nodes have that struct too, and the other kinds
-- at their `kind` at the latest, by P11; or before, as headless.
abbrev pub root_at : Types → Row → ℕ → ℕ → Option (List ℕ) → List ℕ → Result StartAt PlanFault
root_at types needs n address None path = Ok (RootAt address (unwrap_or needs.head 0) (first_byte (unwrap_or needs.head 0)))
root_at types needs n address (Some name) path = do
  ty ← at (Some n) key.RootType (type_named types name)
  to ← at (Some n) key.RootPath (struct_at types needs.head (located types ty path))
  Ok (RootAt address ty to)

-- a root audit, whose symbol is the head itself, is of a kind that asks for the head's struct at once, and lacks it
abbrev pub is_headless : Row → StartText → Bool
is_headless needs start = not needs.named && (is_some start.root && not (is_some start.root_type))

-- where a path leads from the element of the audit above
abbrev pub from_at : Types → Row → Option ℕ → List ℕ → Result ByteAt PRule
from_at types needs None path = Err P10
from_at types needs (Some element) path = struct_at types needs.head (located types element path)

-- the address of a root audit's symbol
abbrev pub root_for : Kernel → ℕ → Option (List ℕ) → Result (Option ℕ) PlanFault
root_for kernel n None = Ok None
root_for kernel n (Some name) = do
  address ← at (Some n) key.Root (addressed (address_in kernel name))
  Ok (Some address)

-- where an audit begins, where its symbol has this address and the element of the audit above has this type
abbrev pub begun : Types → Row → ℕ → Option ℕ → StartText → Option ℕ → Result StartAt PlanFault
begun types needs n above start None = do
  to ← at (Some n) key.From (from_at types needs above (unwrap_or start.from []))
  Ok (FromAt to start.optional)
begun types needs n above start (Some address) = root_at types needs n address start.root_type (unwrap_or start.root_path [])

-- the type of the elements: a kind's own where no key names it
abbrev pub element_at : Types → Option ℕ → Option (List ℕ) → Result (Option ℕ) PRule
element_at types own None = Ok own
element_at types own (Some name) = do
  ty ← type_named types name
  Ok (Some ty)

-- a node that stands in the element itself
abbrev pub inside : ByteAt → List ℕ → Result ℕ PRule
inside place [] = Ok place.byte
inside place (hop ∷ hops) = Err P10

-- the byte of the node in an element
abbrev pub link_for : Types → Row → ℕ → Option ℕ → Option (List ℕ) → Result ℕ PlanFault
link_for types needs n element None = Ok 0
link_for types needs n None (Some path) = at (Some n) key.Link (Err P10)
link_for types needs n (Some element) (Some path) = do
  place ← at (Some n) key.Link (struct_at types needs.node (located types element path))
  at (Some n) key.Link (inside place place.hops)

-- a number that stands in the element itself
abbrev pub bits_inside : BitsAt → List ℕ → Result (Option BitsAt) PRule
bits_inside bits [] = Ok (Some bits)
bits_inside bits (hop ∷ hops) = Err P10

abbrev pub number_inside : Result NumberAt PathFault → Result (Option BitsAt) PRule
number_inside (Err fault) = Err P10
number_inside (Ok number) = bits_inside number.bits number.hops

-- the bits of the key in an element
abbrev pub key_for : Types → ℕ → Option ℕ → Option (List ℕ) → Result (Option BitsAt) PlanFault
key_for types n element None = Ok None
key_for types n None (Some path) = at (Some n) key.Key (Err P10)
key_for types n (Some element) (Some path) = at (Some n) key.Key (number_inside (field types element path))

-- the audits that an audit names
abbrev pub children : List Link → ℕ → List ℕ
children [] n = []
children (link ∷ links) n = if link.above == n then link.below ∷ children links n else children links n

-- the type of an audit's elements
abbrev pub element_of : List AuditAt → ℕ → Option ℕ
element_of audits n = option_and_then (λ (audit : AuditAt). audit.element) (slice_get audits n)

-- the type of the elements of the audit that names this one, which is among those before it
abbrev pub element_above : List Link → List AuditAt → ℕ → Option ℕ
element_above links before n = option_and_then (element_of before) (above_of links n)

-- what the kind of an audit needs of a kernel
abbrev pub needs_in : Kernel → AuditText → Row
needs_in kernel audit = row kernel audit.sort audit.parts.tree.cached

-- the kind of an audit, with where its words stand
abbrev pub kind_in : Kernel → AuditText → ℕ → Option BitsAt → Option Kind
kind_in kernel audit link bits =
    shape kernel (needs_in kernel audit)
    (record { link = link; key = bits; unique = audit.parts.tree.unique; cached = audit.parts.tree.cached }) audit.sort

-- the audit with a number, behind these
unfoldable pub planned : Kernel → List Link → List AuditAt → ℕ → AuditText → Result AuditAt PlanFault
planned kernel links before n audit = do
  root ← root_for kernel n audit.start.root
  clear ← at (Some n) key.Kind (refuse_if (not (needs_in kernel audit).clear) P9)
  headed ← at (Some n) key.Root (refuse_if (is_headless (needs_in kernel audit) audit.start) P10)
  start ← begun kernel.types (needs_in kernel audit) n (element_above links before n) audit.start root
  element ← at (Some n) key.Element (element_at kernel.types (needs_in kernel audit).element audit.parts.element)
  link ← link_for kernel.types (needs_in kernel audit) n element audit.parts.link
  bits ← key_for kernel.types n element audit.parts.tree.key
  kind ← at (Some n) key.Kind (ok_or (kind_in kernel audit link bits) P11)
  checks ← checks_for kernel.types n element audit.parts.checks
  Ok (record { name = audit.name; kind = kind; start = start; element = element; link = link; checks = checks; each = children links n })

-- the audits, behind these
abbrev pub all_planned : Kernel → List Link → List AuditAt → List AuditText → Result (List AuditAt) PlanFault
all_planned kernel links before [] = Ok before
all_planned kernel links before (audit ∷ audits) = do
  one ← planned kernel links before (length before) audit
  all_planned kernel links (before ++ one ∷ []) audits

-- the audits of a plan, as they are written
unfoldable pub plan_of : Kernel → List AuditText → Result (List AuditAt) PlanFault
plan_of kernel audits = do
  links ← links_for audits
  all_planned kernel links [] audits

-- The plan of a file's bytes, or its first fault: of the document and its keys, then of its audits one by one as they are
-- written, then of the names by which they name each other, then of what they need in the kernel's types and
-- symbols, audit by audit.
unfoldable pub plan : Kernel → List ℕ → Result PlanAt PlanFault
plan kernel bytes = do
  table ← parsed (document bytes)
  written ← written_for table
  audits ← plan_of kernel written.audits
  Ok (record { version = written.version; tail = written.tail; audits = audits })
