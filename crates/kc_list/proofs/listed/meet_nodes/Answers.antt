use Rattle.std.proofs.Common.{◌∙◌, arith, rules, ◌≡◌, Err}
use Rattle.kc_memory.specs.Stays.{stays_on}
use Rattle.kc_list.specs.Listed.{node_wants}
use Rattle.kc_list.proofs.ListedLemmas.Meeting.{both_go, first_halts, second_halts}
use Rattle.kc_list.proofs.listed.meet_nodes.Goals as goal

pub returns-in_err-meet-clause-met : goal.returns-in_err-meet-clause-met
returns-in_err-meet-clause-met g c =
    let ended : c.from_residual.result ≡ Err c.in_err-meet.field-0.0 = search rules in
    rw ended (first_halts _ _ (g.S.Space.image c.args.space.now) c.args.claims.now c.loop-i.claims c.meet.new.claims (node_wants c.args.linking.now c.args.first c.args.nodes.now) c.args.linking.now c.loop-i.before c.args.nodes.now c.loop-i.i c.get-node.result.now c.node_or-next.result c.in_err-meet.field-0.0
    c.get-node.ensures c.node_or-next.ensures c.loop-i.invariant.0 (rw c.loop-i.invariant.1.same_image at c.in_err-meet.ensures.met))

pub returns-in_err-meet-2-clause-met : goal.returns-in_err-meet-2-clause-met
returns-in_err-meet-2-clause-met g c =
    let ended : c.from_residual-in_err-meet-2.result ≡ Err c.in_err-meet-2.field-0.0 = search rules in
    rw ended (second_halts _ _ (g.S.Space.image c.args.space.now) c.args.claims.now c.loop-i.claims c.meet.new.claims c.meet-in-loop-i.new.claims (node_wants c.args.linking.now c.args.first c.args.nodes.now) c.args.linking.now c.loop-i.before c.args.nodes.now c.loop-i.i c.get-node.result.now c.node_or-next.result c.in_ok-meet.field-0 c.in_err-meet-2.field-0.0
    c.get-node.ensures c.node_or-next.ensures c.loop-i.invariant.0 (rw c.loop-i.invariant.1.same_image at c.in_ok-meet.ensures.met) (rw (c.in_ok-meet.ensures.stays.same_image, c.loop-i.invariant.1.same_image) at c.in_err-meet-2.ensures.met))

pub loop-i-preserved : goal.loop-i-preserved
loop-i-preserved g c = (
  both_go (g.S.Space.image c.args.space.now) c.args.claims.now c.loop-i.claims c.meet.new.claims c.meet-in-loop-i.new.claims (node_wants c.args.linking.now c.args.first c.args.nodes.now) c.args.linking.now c.loop-i.before c.led_back-before.result c.args.nodes.now c.loop-i.i c.get-node.result.now c.node_or-next.result c.in_ok-meet.field-0 c.in_ok-meet-2.field-0
      c.get-node.ensures c.node_or-next.ensures c.led_back-before.ensures c.loop-i.invariant.0 (rw c.loop-i.invariant.1.same_image at c.in_ok-meet.ensures.met) (rw (c.in_ok-meet.ensures.stays.same_image, c.loop-i.invariant.1.same_image) at c.in_ok-meet-2.ensures.met),
  stays_on _ _ _ _ c.args.space.now c.meet.new.space c.meet-in-loop-i.new.space (stays_on _ _ _ _ c.args.space.now c.loop-i.space c.meet.new.space c.loop-i.invariant.1 c.in_ok-meet.ensures.stays) c.in_ok-meet-2.ensures.stays,
  c.in_ok-meet-2.ensures.cause ∙ c.in_ok-meet.ensures.cause ∙ c.loop-i.invariant.2,
  omega (arith, c.in_ok-meet.ensures.steps, c.in_ok-meet-2.ensures.steps, c.loop-i.invariant.3),
)
