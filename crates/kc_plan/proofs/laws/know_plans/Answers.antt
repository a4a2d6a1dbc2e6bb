use Rattle.kc_plan.proofs.SymbolLaws.{plans_agree}
use Rattle.kc_plan.proofs.laws.know_plans.Goals as goal

pub returns : goal.returns
returns c = plans_agree
