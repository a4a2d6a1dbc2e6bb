use Rattle.std.proofs.Common.{◌≡◌, ◌∙◌, ℕ, ◌-◌, ◌*◌, ◌^◌, ◌<◌, ◌≤◌, Bool, nat_lt, sym, arith, ap}
use Rattle.std.proofs.lemmas.Bool.{le-ltb, lt-ltb}
use Rattle.kc_gen.specs.Least.{least}
use Rattle.kc_gen.proofs.Loops.{least_here, least_on, power_small}
use Rattle.kc_gen.proofs.items.depth.Goals as goal

abbrev passes : ℕ → ℕ → Bool
passes n d = nat_lt n (2 * 2 ^ d)

pub returns-then-n-d-clause-exact : goal.returns-then-n-d-clause-exact
returns-then-n-d-clause-exact c =
    let d = c.loop-d.d in
    let fits : c.args.n < 2 * 2 ^ d = rw (power_small d c.loop-d-test.true) at c.if-n-d.true in
    sym (least_here (passes c.args.n) (16 - d) d (omega (arith, c.loop-d-test.true)) (lt-ltb c.args.n (2 * 2 ^ d) fits)) ∙ c.loop-d.invariant

pub loop-d-preserved : goal.loop-d-preserved
loop-d-preserved c =
    let d = c.loop-d.d in
    let past : 2 * 2 ^ d ≤ c.args.n = rw (power_small d c.loop-d-test.true) at c.if-n-d.false in
    sym (least_on (passes c.args.n) 16 d c.loop-d-test.true (le-ltb c.args.n (2 * 2 ^ d) past)) ∙ c.loop-d.invariant

pub returns-clause-exact : goal.returns-clause-exact
returns-clause-exact c =
    let done : c.loop-d.d ≡ 16 = omega (arith, c.loop-d-test.false) in
    let is : least (passes c.args.n) (16 - 16) 16 ≡ least (passes c.args.n) (16 - c.loop-d.d) c.loop-d.d = sym (ap (λ d. least (passes c.args.n) (16 - d) d) done) in
    is ∙ c.loop-d.invariant
