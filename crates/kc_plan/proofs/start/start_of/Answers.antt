use Rattle.std.proofs.Common.{arith}
use Rattle.std.proofs.lemmas.Grind.{common_steps}
use Rattle.kc_plan.specs.Audits.{start_for}
use Rattle.kc_plan.proofs.start.start_of.Goals as goal

pub returns : goal.returns
unfolding start_for
returns c = grind (arith, common_steps)
