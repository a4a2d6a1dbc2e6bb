use Rattle.kc_cert.proofs.RecheckingLemmas.Ordered.{steps_are_walks}
use Rattle.kc_cert.proofs.RecheckingLemmas.Right.{answer_right}
use Rattle.kc_cert.proofs.rechecking.laws.know_answers.Goals as goal

pub returns-clause-right : goal.returns-clause-right
returns-clause-right c = answer_right c.know_walked.ensures.walked c.know_verdicts.ensures.clean

pub returns-clause-order : goal.returns-clause-order
returns-clause-order c = steps_are_walks c.know_walked.ensures.walked
