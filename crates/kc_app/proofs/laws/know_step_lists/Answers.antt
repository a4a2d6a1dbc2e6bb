use Rattle.kc_app.proofs.StepLists.{cache_lists_are, pid_lists_are, task_lists_are}
use Rattle.kc_app.proofs.laws.know_step_lists.Goals as goal

pub returns-clause-caches : goal.returns-clause-caches
returns-clause-caches c = cache_lists_are c.know_lists.ensures.rings c.know_free_lists.ensures.walked

pub returns-clause-tasks : goal.returns-clause-tasks
returns-clause-tasks c = task_lists_are c.know_lists.ensures.rings

pub returns-clause-pids : goal.returns-clause-pids
returns-clause-pids c = pid_lists_are c.know_lists.ensures.hash_chains
