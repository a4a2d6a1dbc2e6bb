use Rattle.kc_match.proofs.BesideLaws.{types_stand}
use Rattle.kc_match.proofs.FactLaws.{facts_are_spelled}
use Rattle.kc_match.proofs.OutcomeLaws.{counts_add_up, outcomes_stand}
use Rattle.kc_match.proofs.laws.know_matches.Goals as goal

pub returns-clause-counts : goal.returns-clause-counts
returns-clause-counts c = counts_add_up

pub returns-clause-stand : goal.returns-clause-stand
returns-clause-stand c = outcomes_stand

pub returns-clause-spelled : goal.returns-clause-spelled
returns-clause-spelled c = facts_are_spelled

pub returns-clause-types : goal.returns-clause-types
returns-clause-types c = types_stand
