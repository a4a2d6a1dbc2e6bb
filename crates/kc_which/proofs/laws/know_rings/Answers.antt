use Rattle.kc_which.proofs.CacheLaw.{cache_rings_are_told}
use Rattle.kc_which.proofs.TaskLaw.{task_rings_are_told}
use Rattle.kc_which.proofs.laws.know_rings.Goals as goal

pub returns-clause-tasks : goal.returns-clause-tasks
returns-clause-tasks c = task_rings_are_told

pub returns-clause-caches : goal.returns-clause-caches
returns-clause-caches c = cache_rings_are_told
