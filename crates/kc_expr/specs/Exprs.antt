-- What a check that was read stands for.
use Rattle.kc_expr.specs.Tree.{Tree}
use Rattle.kc_expr.specs.Views.{shape}
use Rattle.kc_expr.specs.declared.expr.Expr.{Expr}

abbrev pub tree_of : Expr → Tree
tree_of e = shape e.root
