use Rattle.std.proofs.Common.{◌≡◌, ◌∙◌, ℕ, ◌-◌, ◌*◌, ◌^◌, ◌<◌, ◌≤◌, Bool, false, nat_le, sym, arith}
use Rattle.std.proofs.lemmas.Bool.{le-leb}
use Rattle.std.proofs.lemmas.Bool.Decides.{nat_tests}
use Rattle.kc_gen.proofs.Loops.{least_here, least_on}
use Rattle.kc_gen.proofs.array.top.Goals as goal

abbrev passes : ℕ → ℕ → Bool
passes n k = nat_le n (16 * 16 ^ k)

past : (a b : ℕ) → b < a → nat_le a b ≡ false
past a b more = grind (arith, nat_tests)

pub returns-then-n-span-clause-exact : goal.returns-then-n-span-clause-exact
returns-then-n-span-clause-exact c =
    let level = c.loop-level.level in
    let enough : c.args.n ≤ 16 * 16 ^ level = rw c.span.ensures.exact at c.if-n-span.true in
    sym (least_here (passes c.args.n) (4 - level) level (omega (arith, c.loop-level-test.true)) (le-leb c.args.n (16 * 16 ^ level) enough)) ∙ c.loop-level.invariant

pub loop-level-preserved : goal.loop-level-preserved
loop-level-preserved c =
    let level = c.loop-level.level in
    let few : 16 * 16 ^ level < c.args.n = rw c.span.ensures.exact at c.if-n-span.false in
    sym (least_on (passes c.args.n) 4 level c.loop-level-test.true (past c.args.n (16 * 16 ^ level) few)) ∙ c.loop-level.invariant
