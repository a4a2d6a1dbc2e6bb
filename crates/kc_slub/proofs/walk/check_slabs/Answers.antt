use Rattle.std.proofs.Common.{◌<◌, ◌≤◌, length, rules, arith, ◌∙◌}
use Rattle.kc_memory.specs.Stays.{stays_on}
use Rattle.kc_slub.proofs.Steps.{slabs_stop, slabs_go, slabs_end}
use Rattle.kc_slub.proofs.walk.check_slabs.Goals as goal

pub returns-in-Err-clause-exact : goal.returns-in-Err-clause-exact
returns-in-Err-clause-exact g c =
    slabs_stop _ _ (g.S.Space.image c.args.space.now) g.C.Chains.free_by c.args.pass.now.asked c.args.pass.now.shape c.args.pass.now.bases c.args.pass.now.objects c.args.slabs.now (g.C.Rings.lists c.args.chains.now) c.args.nodes.now c.loop-i.slabs (g.C.Rings.lists c.loop-i.chains) c.loop-i.i c.get.result.now c.in-Err.stop
    c.loop-i.invariant.same c.get.ensures (rw (c.loop-i.invariant.stays.same_image, c.new-view.ensures) at c.in-Err.ensures.exact)

pub loop-i-preserved : goal.loop-i-preserved
loop-i-preserved g c = record {
  same = rw c.in-Ok-push_node.ensures.added (slabs_go (g.S.Space.image c.args.space.now) g.C.Chains.free_by c.args.pass.now.asked c.args.pass.now.shape c.args.pass.now.bases c.args.pass.now.objects c.args.slabs.now (g.C.Rings.lists c.args.chains.now) c.args.nodes.now c.loop-i.slabs (g.C.Rings.lists c.loop-i.chains) _ c.loop-i.i _ c.get.result.now c.in-Ok.slab
      (omega arith) c.loop-i.invariant.same c.get.ensures (rw (c.loop-i.invariant.stays.same_image, c.new-view.ensures) at c.in-Ok.ensures.exact));
  inside = search rules;
  stays = stays_on g.S.Space.image g.S.Space.files g.S.Space.through g.S.Space.most _ _ _ c.loop-i.invariant.stays c.in-Ok.ensures.stays;
  pays = λ paid. omega (arith, c.loop-i.invariant.pays paid, c.in-Ok.ensures.pays paid);
  quiet = c.in-Ok.ensures.cause ∙ c.loop-i.invariant.quiet;
}

pub returns-clause-exact : goal.returns-clause-exact
returns-clause-exact g c =
    slabs_end _ (g.S.Space.image c.args.space.now) g.C.Chains.free_by c.args.pass.now.asked c.args.pass.now.shape c.args.pass.now.bases c.args.pass.now.objects c.args.slabs.now (g.C.Rings.lists c.args.chains.now) c.args.nodes.now c.loop-i.i _
    c.loop-i.invariant.same (search rules)

pub returns-in-Err-clause-pays : goal.returns-in-Err-clause-pays
returns-in-Err-clause-pays g c = λ paid.
    let inside : c.loop-i.i < length c.args.nodes.now = search rules in
    omega (arith, inside, c.loop-i.invariant.pays paid, c.in-Err.ensures.pays paid)

pub returns-in-Err-push_node-clause-pays : goal.returns-in-Err-push_node-clause-pays
returns-in-Err-push_node-clause-pays g c = λ paid.
    let inside : c.loop-i.i < length c.args.nodes.now = search rules in
    omega (arith, inside, c.loop-i.invariant.pays paid, c.in-Ok.ensures.pays paid)

pub returns-clause-pays : goal.returns-clause-pays
returns-clause-pays g c = λ paid.
    let inside : c.loop-i.i ≤ length c.args.nodes.now = search rules in
    omega (arith, inside, c.loop-i.invariant.pays paid)
