use Rattle.kc_element.proofs.ElementLaws.{elements_hold}
use Rattle.kc_element.proofs.StepLaws.{steps_lead_back}
use Rattle.kc_element.proofs.laws.know_elements.Goals as goal

pub returns-clause-hold : goal.returns-clause-hold
returns-clause-hold c = elements_hold

pub returns-clause-steps : goal.returns-clause-steps
returns-clause-steps c = steps_lead_back
