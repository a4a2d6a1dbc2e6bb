use Rattle.std.specs.Prelude.{Ok, None}
use Rattle.kc_which.specs.CacheRings.{nodes_on}
use Rattle.kc_which.proofs.Ending.{ended}
use Rattle.kc_which.proofs.caches.in_partial.Goals as goal

pub returns-clause-exact : goal.returns-clause-exact
returns-clause-exact g c =
    rw c.told.ensures (ended (g.S.Space.image c.args.space.now) (λ i. nodes_on i c.args.shape.now c.args.found.now c.args.which) (λ i nodes. Ok None) c.args.found.now c.args.which c.in-Err.stop
    c.in-Err.ensures.exact)
