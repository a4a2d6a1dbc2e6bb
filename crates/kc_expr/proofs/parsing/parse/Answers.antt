use Rattle.std.proofs.Common.{rules, ℕ, List, ap, ◌∙◌, arith}
use Rattle.std.specs.Global.{Vec}
use Rattle.kc_expr.specs.Lists.{texts}
use Rattle.kc_expr.specs.Values.{fields_from}
use Rattle.kc_expr.specs.Views.{shape}
use Rattle.kc_expr.proofs.FaultLemmas.{told-fault}
use Rattle.kc_expr.proofs.SaidLemmas.{read-is-text}
use Rattle.kc_expr.proofs.WeightLemmas.{parsed-leaves}
use Rattle.kc_expr.proofs.parsing.parse.Goals as goal

pub invariant_of-result : goal.invariant_of-result
invariant_of-result c = record {
  listed = c.in_ok-list_fields.ensures ∙ ap (λ (vs : List (Vec ℕ)). fields_from (texts vs) (shape c.in_ok-root.root)) c.new-paths.ensures.items;
  small = let few = parsed-leaves c.args.text.now (shape c.in_ok-root.root) c.in_ok-root.ensures in omega (arith, few, c.requires);
}

pub returns-clause-tree : goal.returns-clause-tree
returns-clause-tree c = read-is-text c.args.text.now (shape c.in_ok-root.root) c.in_ok-root.ensures

pub returns-in_err-root-clause-fault : goal.returns-in_err-root-clause-fault
returns-in_err-root-clause-fault c = told-fault c.args.text.now c.from_residual.result (search rules)
