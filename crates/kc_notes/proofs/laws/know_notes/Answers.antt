use Rattle.kc_notes.proofs.NoteLaws.{part_means, first_part_tells}
use Rattle.kc_notes.proofs.laws.know_notes.Goals as goal

pub returns-clause-stops : goal.returns-clause-stops
returns-clause-stops c = part_means

pub returns-clause-tells : goal.returns-clause-tells
returns-clause-tells c = first_part_tells
