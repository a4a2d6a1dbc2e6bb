use Rattle.std.proofs.Common.{◌<◌, ◌≤◌, ◌^◌, sym, arith}
use Rattle.std.proofs.Math.Pow.{pow_mono}
use Rattle.std.proofs.Math.Nat.{mod-eq_of_lt}
use Rattle.kc_frame.proofs.block.page_in.Goals as goal

pub returns-else-order-lt64 : goal.returns-else-order-lt64
returns-else-order-lt64 c =
    let far : 64 ≤ c.args.order = omega arith in
    let fits : 2 ^ 64 ≤ 2 ^ c.args.order = pow_mono far in
    let small : c.args.number < 2 ^ c.args.order = omega (arith, fits) in
    sym (mod-eq_of_lt small)
