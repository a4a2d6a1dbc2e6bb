use Rattle.std.proofs.Common.{refl, []}
use Rattle.kc_view.specs.TaskLists.{task_list}
use Rattle.kc_steps.specs.Chains.{ring_walked}
use Rattle.kc_steps.specs.TasksBy.{tasks_all_by}
use Rattle.kc_task.proofs.Passing.{comes_alone}
use Rattle.kc_task.proofs.walk.walk_list.Goals as goal

pub returns-clause-exact : goal.returns-clause-exact
returns-clause-exact g c =
    comes_alone _ (g.S.Space.image c.args.space.now) (λ i. tasks_all_by i (ring_walked i) c.args.shape.now c.args.asked.now []) (λ i. task_list i c.args.shape.now c.args.asked.now) c.tasks_walk_by.result
    (λ i. c.know_chains.ensures.tasks i (ring_walked i) c.args.shape.now c.args.asked.now [] (c.know_chains.ensures.walked i).0) (λ xs. refl) c.tasks_walk_by.ensures.walk
