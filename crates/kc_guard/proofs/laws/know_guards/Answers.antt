use Rattle.kc_guard.proofs.GuardLaws.{guards_hold, spoiled_stand}
use Rattle.kc_guard.proofs.laws.know_guards.Goals as goal

pub returns-clause-hold : goal.returns-clause-hold
returns-clause-hold c = guards_hold

pub returns-clause-stand : goal.returns-clause-stand
returns-clause-stand c = spoiled_stand c.know_numbers.ensures.stand
