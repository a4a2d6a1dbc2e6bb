use Rattle.std.proofs.Common.{rules}
use Rattle.kc_found.specs.declared.xarrays.XaNode.{XaNode}
use Rattle.kc_xa.proofs.Behind.{enters_node, enters_stop}
use Rattle.kc_xa.proofs.slots.enter_slot.Goals as goal

pub returns-in-Ok-clause-enters : goal.returns-in-Ok-clause-enters
returns-in-Ok-clause-enters g c =
    enters_node (λ (x : XaNode). c.open_node.new.claims) (g.S.Space.image c.args.space.now) c.args.pass.now.shape c.args.pass.now.asked c.args.node.now c.args.entry.slot c.args.entry.word c.index_of-index.result c.entry_of-kind.result c.in-Some-index.index c.args.claims.now c.args.walked.now c.in-Ok.child c.in-Ok.child
    c.entry_of-kind.ensures c.index_of-index.ensures (search rules) (search rules) (search rules) c.in-Ok.ensures.site c.in-Ok.ensures.opened

pub returns-in-Err-clause-enters : goal.returns-in-Err-clause-enters
returns-in-Err-clause-enters g c =
    enters_stop _ (g.S.Space.image c.args.space.now) c.args.pass.now.shape c.args.pass.now.asked c.args.node.now c.args.entry.slot c.args.entry.word c.index_of-index.result c.entry_of-kind.result c.in-Some-index.index c.args.claims.now c.open_node.new.claims c.args.walked.now c.in-Err.stop
    c.entry_of-kind.ensures c.index_of-index.ensures (search rules) (search rules) (search rules) c.in-Err.ensures.site
