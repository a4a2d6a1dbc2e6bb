use Rattle.kc_split.proofs.NameLemmas.{go_on}
use Rattle.kc_split.proofs.laws.know_join.Goals as goal

pub returns : goal.returns
returns c = go_on
