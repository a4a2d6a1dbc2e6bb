use Rattle.std.proofs.Common.{arith}
use Rattle.kc_owner.proofs.RingLemmas.{last_at}
use Rattle.kc_owner.proofs.ring.last_or.Goals as goal

pub returns-else-len-eq0 : goal.returns-else-len-eq0
returns-else-len-eq0 c = last_at c.args.head _ c.args.nodes.now c.get.result.now c.get.ensures (omega arith)
