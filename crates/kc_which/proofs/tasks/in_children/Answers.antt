use Rattle.std.specs.Prelude.{Ok, None}
use Rattle.kc_which.specs.declared.tasks.TaskRing.TheVariants.{Children}
use Rattle.kc_which.specs.TaskRings.{nodes_on}
use Rattle.kc_which.proofs.Ending.{ended}
use Rattle.kc_which.proofs.tasks.in_children.Goals as goal

pub returns-clause-exact : goal.returns-clause-exact
returns-clause-exact g c =
    rw c.told.ensures (ended (g.S.Space.image c.args.space.now) (λ i. nodes_on i c.args.shape.now c.args.found.now (Children c.args.parent)) (λ i nodes. Ok None) c.args.found.now (Children c.args.parent) c.in-Err.stop
    c.in-Err.ensures.exact)
