use Rattle.std.proofs.Common.{arith}
use Rattle.std.proofs.lemmas.Grind.{common_steps}
use Rattle.kc_plan.proofs.audit.audits_of.Goals as goal

pub loop-table-preserved : goal.loop-table-preserved
loop-table-preserved c = grind (arith, common_steps)

pub returns-in_err-audit-clause-exact : goal.returns-in_err-audit-clause-exact
returns-in_err-audit-clause-exact c = grind (arith, common_steps)
