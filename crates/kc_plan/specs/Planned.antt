-- An audit of a plan, and what contracts see as one.
use Rattle.std.specs.Prelude.{ℕ, List, map, Bool, true, false, Option}
use Rattle.kc_word.specs.declared.plain.Tail.{Tail}
use Rattle.kc_expr.specs.Exprs.{tree_of}
use Rattle.kc_expr.specs.Tree.{Tree}
use Rattle.kc_layout.specs.Ends.{ByteAt, NumberAt}
use Rattle.kc_layout.specs.Views.{byte_view, number_view}
use Rattle.kc_kinds.specs.declared.kind.Kind.{Kind}
use Rattle.kc_plan.specs.declared.planned.Audit.{Audit}
use Rattle.kc_plan.specs.declared.planned.Check.{Check}
use Rattle.kc_plan.specs.declared.planned.Start.{Start}
use Rattle.kc_plan.specs.declared.planned.Start.TheVariants.{Root, From}

-- Where an audit begins: at a path from a type that lies at a symbol's address, or at a path from the
-- element of the audit above. The latter is passed over at a null pointer where it is optional.
pub data StartAt : Type 0 where
  RootAt : (symbol : ℕ) (ty : ℕ) (to : ByteAt) → StartAt
  FromAt : (to : ByteAt) (optional : Bool) → StartAt

-- A check of an element: its tree, and where its paths lead from the element, in the order of first appearance.
pub record CheckAt : Type 0 where
  pub tree : Tree
  pub fields : List NumberAt

-- An audit: its name, its kind with the places of its words, where it begins, the type of its elements, the
-- byte of the node in an element, the checks of each element, and the numbers of the audits that are made there.
pub record AuditAt : Type 0 where
  pub name : List ℕ
  pub kind : Kind
  pub start : StartAt
  pub element : Option ℕ
  pub link : ℕ
  pub checks : List CheckAt
  pub each : List ℕ

-- A plan: its version, how the tail of a segment is read, and the audits. Version 1 asks for one verdict on all audits, and
-- version 2 for one on each root audit.
pub record PlanAt : Type 0 where
  pub version : ℕ
  pub tail : Tail
  pub audits : List AuditAt

-- begins at a path from the element of the audit above
abbrev pub is_from : StartAt → Bool
is_from (RootAt symbol ty to) = false
is_from (FromAt to optional) = true

abbrev pub start_seen : Start → StartAt
start_seen (Root address ty to) = RootAt address ty (byte_view to)
start_seen (From to optional) = FromAt (byte_view to) optional

abbrev pub check_seen : Check → CheckAt
check_seen check = record { tree = tree_of check.expr; fields = map number_view check.fields }

abbrev pub audit_seen : Audit → AuditAt
audit_seen audit = record {
  name = audit.name;
  kind = audit.kind;
  start = start_seen audit.start;
  element = audit.element;
  link = audit.link;
  checks = map check_seen audit.checks;
  each = audit.each;
}

abbrev pub audits_seen : List Audit → List AuditAt
audits_seen audits = map audit_seen audits
