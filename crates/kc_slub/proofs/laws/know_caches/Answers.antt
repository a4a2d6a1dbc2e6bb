use Rattle.kc_slub.proofs.CacheLaw.{caches_are_walked}
use Rattle.kc_slub.proofs.CacheShown.{cache_places_stand}
use Rattle.kc_slub.proofs.laws.know_caches.Goals as goal

pub returns-clause-walked : goal.returns-clause-walked
returns-clause-walked c = caches_are_walked c.know_lists.ensures.rings

pub returns-clause-places : goal.returns-clause-places
returns-clause-places c = cache_places_stand c.know_places.ensures c.know_numbers.ensures.stand c.know_values.ensures.values c.know_lists.ensures.ring_places
