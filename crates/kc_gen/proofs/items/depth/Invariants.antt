use Rattle.std.proofs.Common.{◌≡◌, ◌-◌, ◌*◌, ◌^◌, nat_lt}
use Rattle.kc_gen.specs.Items.{depth}
use Rattle.kc_gen.specs.Least.{least}
use Rattle.kc_gen.proofs.items.depth.Given as goal

-- no depth so far is the greatest
abbrev pub invariant-loop-d : goal.invariant-loop-d
invariant-loop-d l = least (λ d. nat_lt l.n (2 * 2 ^ d)) (16 - l.d) l.d ≡ depth l.n
