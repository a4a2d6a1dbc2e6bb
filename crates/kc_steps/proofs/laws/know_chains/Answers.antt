use Rattle.kc_steps.proofs.Agreeing.{free_is_kept, free_is_walked, rings_kept, rings_walked}
use Rattle.kc_steps.proofs.CachesAgreeing.{cache_lists_are_walked, caches_agree}
use Rattle.kc_steps.proofs.CachesTaking.{cache_lists_are_taken}
use Rattle.kc_steps.proofs.TasksAgreeing.{task_lists_are_walked, tasks_agree}
use Rattle.kc_steps.proofs.TasksTaking.{task_lists_are_taken}
use Rattle.kc_steps.proofs.laws.know_chains.Goals as goal

pub returns-clause-walked : goal.returns-clause-walked
returns-clause-walked c = λ image. (rings_walked image, free_is_walked image)

pub returns-clause-kept : goal.returns-clause-kept
returns-clause-kept c = λ image. (rings_kept image, free_is_kept image)

pub returns-clause-caches : goal.returns-clause-caches
returns-clause-caches c = caches_agree

pub returns-clause-tasks : goal.returns-clause-tasks
returns-clause-tasks c = tasks_agree

pub returns-clause-cache_lists : goal.returns-clause-cache_lists
returns-clause-cache_lists c = cache_lists_are_walked

pub returns-clause-task_lists : goal.returns-clause-task_lists
returns-clause-task_lists c = task_lists_are_walked

pub returns-clause-caches_taken : goal.returns-clause-caches_taken
returns-clause-caches_taken c = cache_lists_are_taken

pub returns-clause-tasks_taken : goal.returns-clause-tasks_taken
returns-clause-tasks_taken c = task_lists_are_taken
