use Rattle.std.proofs.Common.{◌≡◌, Err, rules}
use Rattle.kc_found.specs.declared.trees.RbLinks.{RbLinks}
use Rattle.kc_rb.proofs.Judging.{key_stops}
use Rattle.kc_rb.proofs.node.enter_node.Goals as goal

pub returns-in_err-judge_key-clause-site : goal.returns-in_err-judge_key-clause-site
returns-in_err-judge_key-clause-site g c =
    let ends : c.from_residual-in_err-judge_key.result ≡ Err c.in_err-judge_key.field-0.0 = search rules in
    rw ends (key_stops (λ (p : RbLinks). c.enter_links.new.claims) _ (g.S.Space.image c.args.space.now) c.args.claims.now c.args.shape.now c.args.asked.now c.args.spot.now c.in_ok-links.links c.in_ok-links.links c.in-Ok.key c.in_err-judge_key.field-0.0
    c.in_ok-links.ensures.links (search rules) c.in_ok-links.ensures.site c.in_ok-judge_links.ensures.fault c.in_err-judge_key.ensures.fault)
