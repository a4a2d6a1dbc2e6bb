use Rattle.kc_rb.proofs.Opening.{nodes_are_good}
use Rattle.kc_rb.proofs.laws.know_nodes.Goals as goal

pub returns : goal.returns
returns c = nodes_are_good
