use Rattle.kc_view.specs.TaskLists.{task_of}
use Rattle.kc_which.specs.declared.tasks.TaskRing.TheVariants.{Threads}
use Rattle.kc_which.specs.Firsts.{first_of}
use Rattle.kc_which.specs.TaskRings.{in_children, nodes_on}
use Rattle.kc_which.proofs.Ending.{ended}
use Rattle.kc_which.proofs.tasks.in_threads.Goals as goal

pub returns-in-Err-clause-exact : goal.returns-in-Err-clause-exact
returns-in-Err-clause-exact g c =
    rw c.told.ensures (ended (g.S.Space.image c.args.space.now) (λ i. nodes_on i c.args.shape.now c.args.found.now (Threads c.args.leader c.args.signal))
    (λ i. first_of (λ node. in_children i c.args.shape.now c.args.found.now (task_of c.args.shape.now.thread_node node))) c.args.found.now (Threads c.args.leader c.args.signal) c.in-Err.stop
    c.in-Err.ensures.exact)
