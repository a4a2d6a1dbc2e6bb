use Rattle.kc_told.proofs.ByteLemmas.{one_line, read_back}
use Rattle.kc_told.proofs.laws.know_texts.Goals as goal

pub returns-clause-back : goal.returns-clause-back
returns-clause-back c = read_back

pub returns-clause-one_line : goal.returns-clause-one_line
returns-clause-one_line c = one_line
