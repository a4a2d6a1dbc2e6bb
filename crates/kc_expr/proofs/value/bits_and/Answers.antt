use Rattle.std.proofs.Common.{sym, subst, ℤ, ◌≤◌, ◌+◌}
use Rattle.kc_expr.specs.Values.{size}
use Rattle.kc_expr.proofs.BitLemmas.{and-int, and-size}
use Rattle.kc_expr.proofs.value.bits_and.Goals as goal

pub returns : goal.returns
returns c =
    let e = and-int c.args.x c.args.y c.requires.x c.requires.y in
    record {
      value = e;
      size = subst (λ (z : ℤ). size z ≤ size c.args.x + size c.args.y) (sym e) (and-size c.args.x c.args.y);
    }
