-- An audit of a plan as it is written, or the first fault of its table.
use Rattle.std.specs.Prelude.{ℕ, nat_lt, List, [], ◌∷◌, ◌++◌, Bool, true, false, not, ◌&&◌, ◌||◌, length, Option, Some, None, option_and_then, Result, Ok}
use Rattle.std.specs.Option.{ok_or, option_map_or}
use Rattle.std.specs.Str.{bytes_eq}
use Rattle.toml.specs.Data.{Data, Members, no_members, member, as_str, as_array}
use Rattle.kc_word.specs.declared.plain.Tail.{Tail}
use Rattle.kc_text.specs.Readers.{is_name}
use Rattle.kc_expr.specs.declared.keys.fault.PRule.{PRule}
use Rattle.kc_expr.specs.declared.keys.fault.PRule.TheVariants.{P3, P4, P5}
use Rattle.kc_expr.specs.declared.keys.fault.PlanFault.{PlanFault}
use Rattle.kc_expr.specs.declared.keys.fault.PlanKey.{PlanKey}
use Rattle.kc_expr.specs.declared.keys.fault.PlanKey.TheVariants.{Name, Kind, Root, RootType, RootPath, From, Optional, Element, Link, Key, Unique, Cached, Check, Each, Other}
use Rattle.kc_kinds.specs.declared.needs.Need.{Need}
use Rattle.kc_kinds.specs.declared.needs.Need.TheVariants.{Required, Allowed, Barred}
use Rattle.kc_kinds.specs.declared.needs.Needs.{Needs}
use Rattle.kc_kinds.specs.declared.kinds.Sort.{Sort}
use Rattle.kc_plan.specs.Keys.{audit_keys, is_one_of}
use Rattle.kc_kinds.specs.Kinds.{needs_of, sort_of}
use Rattle.kc_plan.specs.Values.{◌>>=◌, all_read, at, flag_for, has, refuse_if, required, text_for, value_at, value_of}

-- where an audit begins, as it is written
pub record StartText : Type 0 where
  pub root : Option (List ℕ)
  pub root_type : Option (List ℕ)
  pub root_path : Option (List ℕ)
  pub from : Option (List ℕ)
  pub optional : Bool

-- how the elements of a tree are ordered, and whether its root keeps the first, as it is written
pub record TreeText : Type 0 where
  pub key : Option (List ℕ)
  pub unique : Bool
  pub cached : Bool

-- what an audit walks, as it is written
pub record PartText : Type 0 where
  pub element : Option (List ℕ)
  pub link : Option (List ℕ)
  pub tree : TreeText
  pub checks : List (List ℕ)
  pub each : List (List ℕ)

-- an audit, as it is written
pub record AuditText : Type 0 where
  pub name : List ℕ
  pub sort : Sort
  pub start : StartText
  pub parts : PartText

-- a plan, as it is written: its version, how the tail of a segment is read, and its audits
pub record PlanText : Type 0 where
  pub version : ℕ
  pub tail : Tail
  pub audits : List AuditText

-- each key of a table is one of these
abbrev pub all_keys : (List ℕ → Bool) → Members → Bool
all_keys p no_members = true
all_keys p (member key found rest) = p key && all_keys p rest

-- one of the audits has this name
abbrev pub is_among : List ℕ → List AuditText → Bool
is_among name [] = false
is_among name (audit ∷ audits) = bytes_eq audit.name name || is_among name audits

-- the kind of an audit
unfoldable pub kind_for : Option ℕ → Members → Result Sort PlanFault
kind_for n table = do
  text ← at n Kind (required as_str (value_at Kind table))
  at n Kind (ok_or (sort_of text) P4)

-- its name, which no earlier audit has
unfoldable pub name_for : List AuditText → Option ℕ → Members → Result (List ℕ) PlanFault
name_for earlier n table = do
  name ← at n Name (required as_str (value_at Name table))
  formed ← at n Name (refuse_if (not (is_name name)) P4)
  fresh ← at n Name (refuse_if (is_among name earlier) P5)
  Ok name

-- Where it begins: at a symbol, or at a symbol's type and a path in it, or at a path from the element of
-- the audit above.
unfoldable pub start_for : Option ℕ → Members → Result StartText PlanFault
start_for n table = do
  root ← text_for n Allowed Root table
  begins ← at n Root (refuse_if (not (has Root table || has From table)) P3)
  root_type ← text_for n Allowed RootType table
  typed ← at n RootType (refuse_if ((has RootPath table && not (has RootType table)) || (has RootType table && not (has Root table))) P3)
  root_path ← text_for n Allowed RootPath table
  led ← at n RootPath (refuse_if ((has RootType table && not (has RootPath table)) || (has RootPath table && not (has Root table))) P3)
  from ← text_for n Allowed From table
  once ← at n From (refuse_if (has Root table && has From table) P3)
  optional ← flag_for n Allowed Optional table
  nested ← at n Optional (refuse_if (has Optional table && not (has From table)) P3)
  Ok (record { root = root; root_type = root_type; root_path = root_path; from = from; optional = option_map_or (λ flag. flag) optional false })

-- the texts that a key lists
abbrev pub names : Data → Option (List (List ℕ))
names found = option_and_then (all_read as_str) (as_array found)

-- none where the key isn't there
abbrev pub listed : Option Data → Result (List (List ℕ)) PRule
listed None = Ok []
listed (Some found) = value_of names found

abbrev pub names_for : Option ℕ → PlanKey → Members → Result (List (List ℕ)) PlanFault
names_for n key table = at n key (listed (value_at key table))

-- an audit whose elements may have no type, and have none, though `check` or `each` is there, be its list empty or not
abbrev pub is_untyped : Need → Members → Bool
is_untyped Required table = false
is_untyped Allowed table = (has Check table || has Each table) && not (has Element table)
is_untyped Barred table = false

-- how the elements of a tree are ordered, where its kind asks this of the keys
unfoldable pub tree_for : Option ℕ → Need → Members → Result TreeText PlanFault
tree_for n need table = do
  key ← text_for n need Key table
  keyed ← at n Key (refuse_if (has Unique table && not (has Key table)) P3)
  unique ← flag_for n need Unique table
  cached ← flag_for n need Cached table
  Ok (record { key = key; unique = option_map_or (λ flag. flag) unique false; cached = option_map_or (λ flag. flag) cached false })

-- what it walks, where its kind asks this of its keys, and what is asked of each element. There are at most 32 checks.
unfoldable pub parts_for : Option ℕ → Needs → Members → Result PartText PlanFault
parts_for n needs table = do
  element ← text_for n needs.element Element table
  typed ← at n Element (refuse_if (is_untyped needs.element table) P3)
  link ← text_for n needs.link Link table
  tree ← tree_for n needs.tree table
  checks ← names_for n Check table
  few ← at n Check (refuse_if (nat_lt 32 (length checks)) P4)
  each ← names_for n Each table
  Ok (record { element = element; link = link; tree = tree; checks = checks; each = each })

-- the audit of a table, behind these
unfoldable pub audit_for : List AuditText → Option ℕ → Members → Result AuditText PlanFault
audit_for earlier n table = do
  sort ← kind_for n table
  known ← at n Other (refuse_if (not (all_keys (is_one_of audit_keys) table)) P3)
  name ← name_for earlier n table
  start ← start_for n table
  parts ← parts_for n (needs_of sort) table
  Ok (record { name = name; sort = sort; start = start; parts = parts })

-- the audits of tables, behind these
abbrev pub audits_for : List AuditText → List Members → Result (List AuditText) PlanFault
audits_for earlier [] = Ok earlier
audits_for earlier (table ∷ tables) = do
  audit ← audit_for earlier (Some (length earlier)) table
  audits_for (earlier ++ audit ∷ []) tables
