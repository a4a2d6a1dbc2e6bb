use Rattle.std.proofs.Common.{sym, subst, ℤ, ◌≤◌, ◌+◌}
use Rattle.kc_expr.specs.Values.{size}
use Rattle.kc_expr.proofs.BitLemmas.{xor-int, xor-size}
use Rattle.kc_expr.proofs.value.bits_xor.Goals as goal

pub returns : goal.returns
returns c =
    let e = xor-int c.args.x c.args.y c.requires.x c.requires.y in
    record {
      value = e;
      size = subst (λ (z : ℤ). size z ≤ size c.args.x + size c.args.y) (sym e) (xor-size c.args.x c.args.y);
    }
