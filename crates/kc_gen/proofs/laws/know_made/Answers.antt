use Rattle.kc_gen.proofs.KeyLaws.{each_key, items_fill}
use Rattle.kc_gen.proofs.laws.know_made.Goals as goal

pub returns-clause-keys : goal.returns-clause-keys
returns-clause-keys c = each_key

pub returns-clause-fill : goal.returns-clause-fill
returns-clause-fill c = items_fill
