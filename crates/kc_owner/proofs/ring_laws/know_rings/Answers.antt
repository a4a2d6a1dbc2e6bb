use Rattle.kc_owner.proofs.RingOnce.{nodes_once}
use Rattle.kc_owner.proofs.RingParts.{broken_parts, whole_stays}
use Rattle.kc_owner.proofs.ring_laws.know_rings.Goals as goal

pub returns-clause-whole : goal.returns-clause-whole
returns-clause-whole c = whole_stays

pub returns-clause-broken : goal.returns-clause-broken
returns-clause-broken c = broken_parts

pub returns-clause-once : goal.returns-clause-once
returns-clause-once c = nodes_once c.know_lists.ensures.rings
