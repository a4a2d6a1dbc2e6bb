use Rattle.kc_rules.proofs.RuleLaws.{codes_read_back, every_rule}
use Rattle.kc_rules.proofs.laws.know_rules.Goals as goal

pub returns-clause-every : goal.returns-clause-every
returns-clause-every c = every_rule

pub returns-clause-back : goal.returns-clause-back
returns-clause-back c = codes_read_back
