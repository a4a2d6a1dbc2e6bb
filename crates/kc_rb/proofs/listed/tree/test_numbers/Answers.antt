use Rattle.std.proofs.Common.{rules, arith, sym, ◌∙◌, ◌≤◌, ◌<◌}
use Rattle.std.proofs.lemmas.List.{nil_from_length}
use Rattle.kc_memory.specs.Stays.{stays_on}
use Rattle.kc_rb.proofs.ListedLemmas.Pacing.{few_pop, few_push, node_goes, node_halts, null_goes, runs_out, strays}
use Rattle.kc_rb.proofs.listed.tree.test_numbers.Goals as goal

pub returns-in-None-clause-test : goal.returns-in-None-clause-test
returns-in-None-clause-test g c =
    runs_out _ (g.S.Space.image c.args.space.now) c.args.pass.now.shape c.args.pass.now.asked _ c.loop-i.first c.loop-i.claims c.loop-i.pending.items c.args.numbers.now c.loop-i.i c.get-number.result.now c.get-number.ensures (nil_from_length _ (sym c.loop-i.pending.ok.0 ∙ c.in-None.ensures.cases.0)) c.loop-i.invariant.0

pub returns-then-number-spot-clause-test : goal.returns-then-number-spot-clause-test
returns-then-number-spot-clause-test g c =
    strays _ (g.S.Space.image c.args.space.now) c.args.pass.now.shape c.args.pass.now.asked _ c.loop-i.first c.loop-i.claims c.loop-i.pending.items c.pop.new.self.items c.in-Some.spot c.args.numbers.now c.loop-i.i c.get-number.result.now c.get-number.ensures c.in-Some.ensures.items (search rules) c.loop-i.invariant.0

pub loop-i-preserved-then-number-eq0 : goal.loop-i-preserved-then-number-eq0
loop-i-preserved-then-number-eq0 g c = (
  null_goes (g.S.Space.image c.args.space.now) c.args.pass.now.shape c.args.pass.now.asked _ c.loop-i.first c.loop-i.claims c.loop-i.pending.items c.pop.new.self.items c.in-Some.spot c.args.numbers.now c.loop-i.i c.get-number.result.now c.or_else.result c.get-number.ensures c.in-Some.ensures.items (search rules) (search rules) (search rules) c.or_else.ensures c.loop-i.invariant.0,
  c.loop-i.invariant.1,
  c.loop-i.invariant.2,
  omega (arith, c.loop-i.invariant.3),
  (few_pop c.loop-i.i c.loop-i.pending.items c.pop.new.self.items c.in-Some.spot c.in-Some.ensures.items c.loop-i.invariant.4).0,
)

pub push_children-requires : goal.push_children-requires
push_children-requires g c =
    let black : c.in-Some.spot.black ≤ c.loop-i.i = (few_pop c.loop-i.i c.loop-i.pending.items c.pop.new.self.items c.in-Some.spot c.in-Some.ensures.items c.loop-i.invariant.4).1 in
    let fits : c.len-i-end.result < 18446744073709551616 = search rules in omega (arith, black, c.loop-i-test.true, fits)

pub loop-i-preserved : goal.loop-i-preserved
loop-i-preserved g c =
    let few = few_pop c.loop-i.i c.loop-i.pending.items c.pop.new.self.items c.in-Some.spot c.in-Some.ensures.items c.loop-i.invariant.4 in (
      node_goes (g.S.Space.image c.args.space.now) c.args.pass.now.shape c.args.pass.now.asked _ c.loop-i.first c.loop-i.claims c.enter_node.new.claims c.loop-i.pending.items c.pop.new.self.items c.push_children.new.pending.items c.in-Some.spot c.args.numbers.now c.loop-i.i c.get-number.result.now c.in-Ok.entered.0 c.in-Ok.entered.1 c.in-Ok.entered
          c.get-number.ensures c.in-Some.ensures.items (search rules) (search rules) (rw c.loop-i.invariant.1.same_image at c.in-Ok.ensures.site) (rw c.loop-i.invariant.1.same_image at c.in-Ok.ensures.links) (rw c.loop-i.invariant.1.same_image at c.in-Ok.ensures.key) c.in_ok-push_children.ensures.added c.loop-i.invariant.0,
      stays_on _ _ _ _ c.args.space.now c.loop-i.space c.enter_node.new.space c.loop-i.invariant.1 c.in-Ok.ensures.stays,
      c.in-Ok.ensures.cause ∙ c.loop-i.invariant.2,
      omega (arith, c.in-Ok.ensures.steps, c.know_most.ensures, c.loop-i.invariant.3),
      few_push c.loop-i.i c.pop.new.self.items c.push_children.new.pending.items c.in-Some.spot c.in-Ok.entered.0 c.in-Ok.entered.1 c.in_ok-push_children.ensures.added few.0 few.1,
    )

pub returns-in-Err-clause-test : goal.returns-in-Err-clause-test
returns-in-Err-clause-test g c =
    node_halts _ _ (g.S.Space.image c.args.space.now) c.args.pass.now.shape c.args.pass.now.asked _ c.loop-i.first c.loop-i.claims c.enter_node.new.claims c.loop-i.pending.items c.pop.new.self.items c.in-Some.spot c.args.numbers.now c.loop-i.i c.get-number.result.now c.in-Err.stop c.test_stop_of.result
    c.get-number.ensures c.in-Some.ensures.items (search rules) (search rules) c.test_stop_of.ensures (rw c.loop-i.invariant.1.same_image at c.in-Err.ensures.site) c.loop-i.invariant.0
