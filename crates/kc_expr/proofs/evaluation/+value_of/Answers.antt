use Rattle.std.proofs.Common.{ℕ, List, get_or, pos, ap, sym, ◌∙◌}
use Rattle.std.specs.List.{position_or_len}
use Rattle.std.specs.Str.{bytes_eq}
use Rattle.kc_expr.specs.declared.tree.Node.{Node}
use Rattle.kc_expr.specs.Lists.{texts}
use Rattle.kc_expr.specs.Values.{value}
use Rattle.kc_expr.specs.Views.{shape}
use Rattle.kc_expr.proofs.BitLemmas.{kept}
use Rattle.kc_expr.proofs.evaluation.+value_of.Goals as goal

pub returns-in-Field-clause-value : goal.returns-in-Field-clause-value
returns-in-Field-clause-value t c =
    kept c.value_at.result (value (texts c.args.paths.now) c.args.values.now (shape c.args.node.now)) c.value_at.ensures.size
    (c.value_at.ensures.value
    ∙ ap (λ (place : ℕ). get_or c.args.values.now place (pos 0))
    (c.place_of.ensures.place ∙ ap (λ (path : List ℕ). position_or_len (λ f. bytes_eq f path) (texts c.args.paths.now)) c.deref.ensures.value)
    ∙ ap (λ (n : Node). value (texts c.args.paths.now) c.args.values.now (shape n)) (sym c.in-Field.is))
