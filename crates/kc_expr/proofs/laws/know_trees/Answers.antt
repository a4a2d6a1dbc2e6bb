use Rattle.kc_expr.proofs.TokenLemmas.{tokens-read, read-tokens}
use Rattle.kc_expr.proofs.laws.know_trees.Goals as goal

pub returns : goal.returns
returns c = record { read = tokens-read; taken = read-tokens }
