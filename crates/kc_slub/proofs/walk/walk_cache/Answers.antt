use Rattle.std.proofs.Common.{refl, []}
use Rattle.kc_view.specs.Caches.{cache_slabs}
use Rattle.kc_steps.specs.CachesBy.{cache_by}
use Rattle.kc_steps.specs.Chains.{free_walked, ring_walked}
use Rattle.kc_slub.proofs.Steps.{comes_alone}
use Rattle.kc_slub.proofs.walk.walk_cache.Goals as goal

pub returns-clause-exact : goal.returns-clause-exact
returns-clause-exact g c =
    comes_alone _ (g.S.Space.image c.args.space.now) (λ i. cache_by i (ring_walked i) (free_walked i) c.args.shape.now c.args.asked.now []) (λ i. cache_slabs i c.args.shape.now c.args.asked.now) c.cache_walk_by.result
    (λ i. c.know_chains.ensures.caches i (ring_walked i) (free_walked i) c.args.shape.now c.args.asked.now [] (c.know_chains.ensures.walked i).0 (c.know_chains.ensures.walked i).1) (λ xs. refl) c.cache_walk_by.ensures.walk
