use Rattle.std.proofs.Common.{rules}
use Rattle.kc_list.proofs.RingSites.{node_stops}
use Rattle.kc_list.proofs.list.enter_node.Goals as goal

pub returns-in-Err-clause-site : goal.returns-in-Err-clause-site
returns-in-Err-clause-site g c =
    node_stops _ _ (g.S.Space.image c.args.space.now) c.args.claims.now c.args.pass.now.shape c.args.pass.now.asked c.args.from c.args.before c.in-Err.stop (search rules) (search rules) c.in-Err.ensures.site
