use Rattle.kc_slab_page.specs.Caches.{caches_view}
use Rattle.kc_slab_page.proofs.PageLemmas.{by_found, by_none}
use Rattle.kc_slab_page.proofs.page.by_cache.Goals as goal

pub returns-in-Some-clause-exact : goal.returns-in-Some-clause-exact
returns-in-Some-clause-exact g c =
    by_found (g.S.Space.image c.args.space.now) c.args.shape.now (caches_view c.args.caches.now) c.args.page.now.at c.args.cache.now c.value.result c.in-Some.seen.now c.by_mark.result
    c.value.ensures c.in-Some.ensures.value c.by_mark.ensures.exact

pub returns-in-None-clause-exact : goal.returns-in-None-clause-exact
returns-in-None-clause-exact g c =
    by_none (g.S.Space.image c.args.space.now) c.args.shape.now (caches_view c.args.caches.now) c.args.page.now.at c.args.cache.now c.value.result c.unnamed.result
    c.value.ensures c.in-None.ensures.value c.unnamed.ensures.exact
