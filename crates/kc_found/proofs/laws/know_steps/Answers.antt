use Rattle.kc_found.proofs.Few.{steps_are_few}
use Rattle.kc_found.proofs.laws.know_steps.Goals as goal

pub returns : goal.returns
returns c = steps_are_few
