use Rattle.std.proofs.Common.{ℕ}
use Rattle.kc_xa.proofs.NodeSites.{claims_stop, rules_stop, rules_pass}
use Rattle.kc_xa.proofs.nodes.open_node.Goals as goal

pub returns-in-Err-take_node-clause-site : goal.returns-in-Err-take_node-clause-site
returns-in-Err-take_node-clause-site g c =
    claims_stop (λ (x : Unit {0}). c.take_node.new.claims) _ (g.S.Space.image c.args.space.now) c.args.claims.now c.args.asked.now c.args.shape.now c.args.holder c.args.led c.in-Ok.words c.in-Err-take_node.stop (rw c.saturating_sub-node.ensures at c.in-Ok.ensures.words) c.in-Err-take_node.ensures.taken

pub returns-in-Err-judge_node-clause-site : goal.returns-in-Err-judge_node-clause-site
returns-in-Err-judge_node-clause-site g c =
    rules_stop (λ (x : ℕ). c.take_node.new.claims) _ (g.S.Space.image c.args.space.now) c.args.claims.now c.take_node.new.claims c.args.asked.now c.args.shape.now c.args.holder c.args.led c.saturating_sub-node.result c.in-Ok.words c.in-Err-judge_node.stop c.saturating_sub-node.ensures (rw c.saturating_sub-node.ensures at c.in-Ok.ensures.words) c.in-Ok-take_node.ensures.taken
    (c.in-Err-judge_node.ensures.rules c.take_node.new.claims)

pub returns-clause-site : goal.returns-clause-site
returns-clause-site g c =
    rules_pass _ (g.S.Space.image c.args.space.now) c.args.claims.now c.args.asked.now c.args.shape.now c.args.holder c.args.led c.in-Ok.words _ (rw c.saturating_sub-node.ensures at c.in-Ok.ensures.words) c.in-Ok-take_node.ensures.taken (rw c.saturating_sub-node.ensures at (c.in-Ok-judge_node.ensures.rules c.take_node.new.claims))
