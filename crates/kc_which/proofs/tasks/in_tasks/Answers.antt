use Rattle.kc_which.specs.declared.tasks.TaskRing.TheVariants.{Tasks}
use Rattle.kc_which.specs.TaskRings.{in_leaders, nodes_on}
use Rattle.kc_which.proofs.Ending.{ended}
use Rattle.kc_which.proofs.tasks.in_tasks.Goals as goal

pub returns-in-Err-clause-exact : goal.returns-in-Err-clause-exact
returns-in-Err-clause-exact g c =
    rw c.told.ensures (ended (g.S.Space.image c.args.space.now) (λ i. nodes_on i c.args.shape.now c.args.found.now Tasks) (λ i. in_leaders i c.args.shape.now c.args.found.now) c.args.found.now Tasks c.in-Err.stop
    c.in-Err.ensures.exact)
