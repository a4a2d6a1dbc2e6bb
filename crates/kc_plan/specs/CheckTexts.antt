-- The checks of an audit's elements, from their texts.
use Rattle.std.specs.Prelude.{ℕ, List, [], ◌∷◌, ◌++◌, length, nat_lt, Option, Some, None, Result, Ok, Err}
use Rattle.kc_btf.specs.Btf.{Types}
use Rattle.kc_expr.specs.Machine.{parsed}
use Rattle.kc_expr.specs.Values.{fields_of}
use Rattle.kc_layout.specs.Ends.{NumberAt, field}
use Rattle.kc_expr.specs.declared.keys.fault.PRule.{PRule}
use Rattle.kc_expr.specs.declared.keys.fault.PRule.TheVariants.{P12}
use Rattle.kc_expr.specs.declared.keys.fault.PlanFault.{PlanFault}
use Rattle.kc_expr.specs.declared.keys.fault.PlanKey.TheVariants.{Check}
use Rattle.kc_plan.specs.Planned.{CheckAt}
use Rattle.kc_plan.specs.Values.{◌>>=◌, at, refuse_if}

-- what must be there for a check
abbrev pub or_refused : {A E : Type 0} → Result A E → Result A PRule
or_refused (Ok x) = Ok x
or_refused (Err fault) = Err P12

-- where paths lead from an element of audit n, behind these
abbrev pub fields_for : Types → ℕ → ℕ → List NumberAt → List (List ℕ) → Result (List NumberAt) PlanFault
fields_for types n element before [] = Ok before
fields_for types n element before (path ∷ paths) = do
  one ← at (Some n) Check (or_refused (field types element path))
  fields_for types n element (before ++ one ∷ []) paths

-- The check of a text on elements of a type: of at most 256 bytes, and with at most 8 paths, each of which leads to a
-- number.
unfoldable pub check_for : Types → ℕ → ℕ → List ℕ → Result CheckAt PlanFault
check_for types n element text = do
  short ← at (Some n) Check (refuse_if (nat_lt 256 (length text)) P12)
  tree ← at (Some n) Check (or_refused (parsed text))
  few ← at (Some n) Check (refuse_if (nat_lt 8 (length (fields_of tree))) P12)
  fields ← fields_for types n element [] (fields_of tree)
  Ok (record { tree = tree; fields = fields })

-- the checks of texts, behind these
abbrev pub all_checks_for : Types → ℕ → ℕ → List CheckAt → List (List ℕ) → Result (List CheckAt) PlanFault
all_checks_for types n element before [] = Ok before
all_checks_for types n element before (text ∷ texts) = do
  one ← check_for types n element text
  all_checks_for types n element (before ++ one ∷ []) texts

-- the checks of an audit, whose elements may have no type: these can't be checked
abbrev pub checks_for : Types → ℕ → Option ℕ → List (List ℕ) → Result (List CheckAt) PlanFault
checks_for types n None [] = Ok []
checks_for types n None (text ∷ texts) = at (Some n) Check (Err P12)
checks_for types n (Some element) texts = all_checks_for types n element [] texts
