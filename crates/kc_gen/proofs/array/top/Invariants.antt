use Rattle.std.proofs.Common.{◌≡◌, ◌-◌, ◌*◌, ◌^◌, nat_le}
use Rattle.kc_gen.specs.Array.{top}
use Rattle.kc_gen.specs.Least.{least}
use Rattle.kc_gen.proofs.array.top.Given as goal

-- no level so far is enough
abbrev pub invariant-loop-level : goal.invariant-loop-level
invariant-loop-level l = least (λ k. nat_le l.n (16 * 16 ^ k)) (4 - l.level) l.level ≡ top l.n
