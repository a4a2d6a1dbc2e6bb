use Rattle.kc_slub.proofs.CacheLaw.{finite_of, none_of}
use Rattle.kc_slub.proofs.walk.cache_walk.Goals as goal

pub returns-clause-finite : goal.returns-clause-finite
returns-clause-finite g c = finite_of c.know_lists.ensures.rings (g.S.Space.image c.args.space.now) c.args.shape.now (record { audit = c.args.audit; start = c.args.cache }) c.walk_cache.result c.walk_cache.ensures.exact

pub returns-clause-none : goal.returns-clause-none
returns-clause-none g c = none_of c.know_lists.ensures.rings (g.S.Space.image c.args.space.now) c.args.shape.now (record { audit = c.args.audit; start = c.args.cache }) c.walk_cache.result c.walk_cache.ensures.exact
