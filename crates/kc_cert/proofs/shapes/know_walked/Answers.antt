use Rattle.kc_cert.proofs.FitsLemmas.Walks.{shape_walked}
use Rattle.kc_cert.proofs.FitsLemmas.Numbers.{nodes_short}
use Rattle.kc_cert.proofs.shapes.know_walked.Goals as goal

pub returns-clause-walked : goal.returns-clause-walked
returns-clause-walked c = shape_walked (record {
  rings = c.know_listed_rings.ensures.rings;
  chains = c.know_listed_rings.ensures.chains;
  ring_walks = c.know_lists.ensures.rings;
  chain_walks = c.know_lists.ensures.hash_chains;
  trees = c.know_listed_trees.ensures.trees;
  tree_walks = c.know_trees.ensures.trees;
  arrays = c.know_entries.ensures.walks;
  caches = c.know_given_lists.ensures.cache_lists;
  tasks = c.know_given_lists.ensures.task_lists;
  pids = c.know_pid_lists.ensures.lists;
})

pub returns-clause-long : goal.returns-clause-long
returns-clause-long c = nodes_short c.know_entries.ensures.few c.know_given_lists.ensures.few_slabs c.know_given_lists.ensures.few_threads c.know_pid_lists.ensures.few
