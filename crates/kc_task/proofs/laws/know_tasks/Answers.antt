use Rattle.kc_task.proofs.TaskLaw.{head_is_read, tasks_are_walked}
use Rattle.kc_task.proofs.TaskPlaces.{task_places_stand}
use Rattle.kc_task.proofs.laws.know_tasks.Goals as goal

pub returns-clause-walked : goal.returns-clause-walked
returns-clause-walked c = tasks_are_walked c.know_lists.ensures.rings

pub returns-clause-places : goal.returns-clause-places
returns-clause-places c = task_places_stand c.know_places.ensures c.know_values.ensures.values c.know_lists.ensures.ring_places

pub returns-clause-head : goal.returns-clause-head
returns-clause-head c = head_is_read c.know_lists.ensures.rings
