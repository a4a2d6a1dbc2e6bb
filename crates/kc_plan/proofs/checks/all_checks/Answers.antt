use Rattle.std.proofs.Common.{arith}
use Rattle.std.proofs.lemmas.Grind.{common_steps}
use Rattle.kc_plan.proofs.checks.all_checks.Goals as goal

pub loop-words-preserved : goal.loop-words-preserved
loop-words-preserved c = grind (arith, common_steps)

pub returns-in_err-check-clause-exact : goal.returns-in_err-check-clause-exact
returns-in_err-check-clause-exact c = grind (arith, common_steps)
