use Rattle.kc_memory.proofs.NumberLaws.{numbers_stand, numbers_fit, bits_are_of_memory}
use Rattle.kc_memory.proofs.laws.know_numbers.Goals as goal

pub returns-clause-stand : goal.returns-clause-stand
returns-clause-stand c = numbers_stand

pub returns-clause-fit : goal.returns-clause-fit
returns-clause-fit c = numbers_fit

pub returns-clause-bits : goal.returns-clause-bits
returns-clause-bits c = bits_are_of_memory
