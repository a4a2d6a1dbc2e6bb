use Rattle.std.proofs.Common.{rules, ◌≡◌, Err}
use Rattle.kc_cert.proofs.CertifyingLemmas.Shaping.{tree_gone, tree_shaped, tree_stops}
use Rattle.kc_cert.proofs.shapes.tree_numbers.Goals as goal

pub returns-in_err-nodes-clause-shape : goal.returns-in_err-nodes-clause-shape
returns-in_err-nodes-clause-shape g c =
    let ended : c.from_residual.result ≡ Err c.in_err-nodes.field-0.0 = search rules in
    rw ended (tree_stops (g.S.Space.image c.args.space.now) c.args.shape.now c.args.asked.now.audit c.args.asked.now.start c.in_err-nodes.field-0.0 c.in_err-nodes.ensures.walk)

pub returns-in-Ok-clause-shape : goal.returns-in-Ok-clause-shape
returns-in-Ok-clause-shape g c =
    tree_shaped (g.S.Space.image c.args.space.now) c.args.shape.now c.args.asked.now.audit c.args.asked.now.start c.in_ok-nodes.nodes c.in-Ok.numbers c.in_ok-nodes.ensures.finite (rw c.in_ok-nodes.ensures.stays.same_image at c.in-Ok.ensures.numbers)

pub returns-in-Err-Unfit-clause-shape : goal.returns-in-Err-Unfit-clause-shape
returns-in-Err-Unfit-clause-shape g c =
    tree_gone (g.S.Space.image c.args.space.now) (g.S.Space.image c.rb_walk.new.space) c.args.shape.now c.args.asked.now.audit c.args.asked.now.start c.in_ok-nodes.nodes c.in-Err-Unfit.field-0 c.gone.result c.in_ok-nodes.ensures.stays.same_image c.in-Err-Unfit.field-0-is
    c.in_ok-nodes.ensures.finite c.in-Err-Unfit.ensures.numbers
