use Rattle.kc_app.proofs.Ends.{checks_end, checks_stand, roots_are_told}
use Rattle.kc_app.proofs.ModuleEnds.{module_checks_end}
use Rattle.kc_app.proofs.Replies.{shown_stand}
use Rattle.kc_app.proofs.laws.know_shown.Goals as goal

pub returns-clause-shown : goal.returns-clause-shown
returns-clause-shown c =
    shown_stand (record { places = c.know_places.ensures; values = c.know_values.ensures.values; verdicts = c.know_verdicts.ensures.places; roots = c.know_verdicts.ensures.root_places })

pub returns-clause-checked : goal.returns-clause-checked
returns-clause-checked c = checks_stand c.know_verdicts.ensures.clean c.know_verdicts.ensures.first

pub returns-clause-roots : goal.returns-clause-roots
returns-clause-roots c = roots_are_told c.know_verdicts.ensures.roots

pub returns-clause-ends : goal.returns-clause-ends
returns-clause-ends c = checks_end (checks_stand c.know_verdicts.ensures.clean c.know_verdicts.ensures.first)

pub returns-clause-module_ends : goal.returns-clause-module_ends
returns-clause-module_ends c = module_checks_end (checks_stand c.know_verdicts.ensures.clean c.know_verdicts.ensures.first)

pub returns-clause-texts : goal.returns-clause-texts
returns-clause-texts c = c.know_texts.ensures

pub returns-clause-single : goal.returns-clause-single
returns-clause-single c = c.know_single.ensures.certificates

pub returns-clause-right : goal.returns-clause-right
returns-clause-right c = c.know_answers.ensures.right

pub returns-clause-order : goal.returns-clause-order
returns-clause-order c = c.know_answers.ensures.order
