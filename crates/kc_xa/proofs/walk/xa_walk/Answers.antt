use Rattle.kc_xa.proofs.Rising.{rises_of}
use Rattle.kc_xa.proofs.Whole.{finite_of, none_of}
use Rattle.kc_xa.proofs.walk.xa_walk.Goals as goal

pub returns-clause-finite : goal.returns-clause-finite
returns-clause-finite g c = finite_of _ (g.S.Space.image c.args.space.now) c.args.shape.now (record { audit = c.args.audit; start = c.args.start }) c.walk_head.result c.walk_head.ensures.walk

pub returns-clause-none : goal.returns-clause-none
returns-clause-none g c = none_of _ (g.S.Space.image c.args.space.now) c.args.shape.now (record { audit = c.args.audit; start = c.args.start }) c.walk_head.result c.walk_head.ensures.walk

pub returns-clause-rises : goal.returns-clause-rises
returns-clause-rises g c = rises_of _ (g.S.Space.image c.args.space.now) c.args.shape.now (record { audit = c.args.audit; start = c.args.start }) c.walk_head.result c.know_chunk.ensures.is c.walk_head.ensures.walk
