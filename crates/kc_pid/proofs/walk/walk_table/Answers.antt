use Rattle.kc_pid.proofs.Table.{ids_stop}
use Rattle.kc_pid.proofs.walk.walk_table.Goals as goal

pub returns-in-Err-clause-exact : goal.returns-in-Err-clause-exact
returns-in-Err-clause-exact g c =
    ids_stop (g.S.Space.image c.args.space.now) c.args.shape.now c.args.asked.now c.in-Err.stop c.in-Err.ensures.exact
