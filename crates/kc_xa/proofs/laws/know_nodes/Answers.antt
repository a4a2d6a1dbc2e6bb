use Rattle.kc_xa.proofs.Sites.{node_site_is}
use Rattle.kc_xa.proofs.Standing.{fine_of, head_fine, head_stands, stands}
use Rattle.kc_xa.proofs.laws.know_nodes.Goals as goal

pub returns-clause-nodes : goal.returns-clause-nodes
returns-clause-nodes c = node_site_is

pub returns-clause-entries : goal.returns-clause-entries
returns-clause-entries c = λ chunk o i k. (stands chunk o i k, fine_of chunk o i k)

pub returns-clause-heads : goal.returns-clause-heads
returns-clause-heads c = λ k. (head_stands k, head_fine k)
