use Rattle.kc_steps.proofs.Giving.{given_free, given_hashes, given_rings}
use Rattle.kc_steps.proofs.laws.know_given.Goals as goal

pub returns-clause-rings : goal.returns-clause-rings
returns-clause-rings c = given_rings

pub returns-clause-free : goal.returns-clause-free
returns-clause-free c = given_free

pub returns-clause-hashes : goal.returns-clause-hashes
returns-clause-hashes c = given_hashes
