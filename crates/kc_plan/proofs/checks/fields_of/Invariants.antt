use Rattle.std.proofs.Common.{◌≡◌, [], drop, length, map}
use Rattle.kc_expr.specs.Exprs.{tree_of}
use Rattle.kc_expr.specs.Values.{fields_of as paths_of}
use Rattle.kc_layout.specs.Views.{number_view}
use Rattle.kc_plan.specs.CheckTexts.{fields_for}
use Rattle.kc_plan.specs.Inside.{FieldsInside}
use Rattle.kc_plan.proofs.checks.fields_of.Given as goal

-- the fields so far, and then those of the paths that are left
abbrev pub invariant-loop-i : goal.invariant-loop-i
invariant-loop-i l =
    (fields_for l.btf l.audit l.element (map number_view l.fields) (drop l.i (paths_of (tree_of l.expr))) ≡ fields_for l.btf l.audit l.element [] (paths_of (tree_of l.expr)))
    × (length l.fields ≡ l.i)
    × FieldsInside (length l.btf.records) l.fields
