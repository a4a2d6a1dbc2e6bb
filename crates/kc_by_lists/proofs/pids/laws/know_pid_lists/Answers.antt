use Rattle.kc_by_lists.proofs.PidsLemmas.ListLaws.{few_pid_nodes, pid_lists_are_kept, pid_lists_are_one, pid_lists_are_used_up, pid_lists_give, pids_have_lists}
use Rattle.kc_by_lists.proofs.pids.laws.know_pid_lists.Goals as goal

pub returns-clause-used : goal.returns-clause-used
returns-clause-used c = pid_lists_are_used_up (record {
  walked = c.know_lists.ensures.hash_chains;
  tested = c.know_listed_rings.ensures.chains;
  given = c.know_given.ensures.hashes;
  lists = c.know_hash_chains.ensures.pid_lists;
  taken = c.know_hash_chains.ensures.pids_taken;
  behind = c.know_hash_chains.ensures.pids_behind;
  items = c.know_entries.ensures.items;
  only = c.know_entries.ensures.walks;
  all = c.know_entries.ensures.all_walks;
  once = c.know_entries.ensures.one_xarray;
  few = c.know_entries.ensures.few;
})

pub returns-clause-lists : goal.returns-clause-lists
returns-clause-lists c = pid_lists_give (record {
  walked = c.know_lists.ensures.hash_chains;
  tested = c.know_listed_rings.ensures.chains;
  given = c.know_given.ensures.hashes;
  lists = c.know_hash_chains.ensures.pid_lists;
  taken = c.know_hash_chains.ensures.pids_taken;
  behind = c.know_hash_chains.ensures.pids_behind;
  items = c.know_entries.ensures.items;
  only = c.know_entries.ensures.walks;
  all = c.know_entries.ensures.all_walks;
  once = c.know_entries.ensures.one_xarray;
  few = c.know_entries.ensures.few;
})

pub returns-clause-pids : goal.returns-clause-pids
returns-clause-pids c = pids_have_lists (record {
  walked = c.know_lists.ensures.hash_chains;
  tested = c.know_listed_rings.ensures.chains;
  given = c.know_given.ensures.hashes;
  lists = c.know_hash_chains.ensures.pid_lists;
  taken = c.know_hash_chains.ensures.pids_taken;
  behind = c.know_hash_chains.ensures.pids_behind;
  items = c.know_entries.ensures.items;
  only = c.know_entries.ensures.walks;
  all = c.know_entries.ensures.all_walks;
  once = c.know_entries.ensures.one_xarray;
  few = c.know_entries.ensures.few;
})

pub returns-clause-kept : goal.returns-clause-kept
returns-clause-kept c = pid_lists_are_kept (record {
  walked = c.know_lists.ensures.hash_chains;
  tested = c.know_listed_rings.ensures.chains;
  given = c.know_given.ensures.hashes;
  lists = c.know_hash_chains.ensures.pid_lists;
  taken = c.know_hash_chains.ensures.pids_taken;
  behind = c.know_hash_chains.ensures.pids_behind;
  items = c.know_entries.ensures.items;
  only = c.know_entries.ensures.walks;
  all = c.know_entries.ensures.all_walks;
  once = c.know_entries.ensures.one_xarray;
  few = c.know_entries.ensures.few;
})

pub returns-clause-one : goal.returns-clause-one
returns-clause-one c = pid_lists_are_one (record {
  walked = c.know_lists.ensures.hash_chains;
  tested = c.know_listed_rings.ensures.chains;
  given = c.know_given.ensures.hashes;
  lists = c.know_hash_chains.ensures.pid_lists;
  taken = c.know_hash_chains.ensures.pids_taken;
  behind = c.know_hash_chains.ensures.pids_behind;
  items = c.know_entries.ensures.items;
  only = c.know_entries.ensures.walks;
  all = c.know_entries.ensures.all_walks;
  once = c.know_entries.ensures.one_xarray;
  few = c.know_entries.ensures.few;
})

pub returns-clause-few : goal.returns-clause-few
returns-clause-few c = few_pid_nodes (record {
  walked = c.know_lists.ensures.hash_chains;
  tested = c.know_listed_rings.ensures.chains;
  given = c.know_given.ensures.hashes;
  lists = c.know_hash_chains.ensures.pid_lists;
  taken = c.know_hash_chains.ensures.pids_taken;
  behind = c.know_hash_chains.ensures.pids_behind;
  items = c.know_entries.ensures.items;
  only = c.know_entries.ensures.walks;
  all = c.know_entries.ensures.all_walks;
  once = c.know_entries.ensures.one_xarray;
  few = c.know_entries.ensures.few;
})
