use Rattle.kc_run.proofs.KindLaws.{kind_places_stand, kinds_are_walked}
use Rattle.kc_run.proofs.walks.know_walks.Goals as goal

pub returns-clause-walked : goal.returns-clause-walked
returns-clause-walked c = kinds_are_walked (record {
  rings = c.know_lists.ensures.rings;
  chains = c.know_lists.ensures.hash_chains;
  trees = c.know_trees.ensures.trees;
  arrays = c.know_xarrays.ensures.walked;
  caches = c.know_caches.ensures.walked;
  tasks = c.know_tasks.ensures.walked;
  pids = c.know_pids.ensures.walked;
})

pub returns-clause-places : goal.returns-clause-places
returns-clause-places c = kind_places_stand (record {
  rings = c.know_lists.ensures.ring_places;
  chains = c.know_lists.ensures.hash_places;
  trees = c.know_trees.ensures.places;
  arrays = c.know_xarrays.ensures.places;
  caches = c.know_caches.ensures.places;
  tasks = c.know_tasks.ensures.places;
  pids = c.know_pids.ensures.places;
})
