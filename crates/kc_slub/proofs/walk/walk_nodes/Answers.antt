use Rattle.std.proofs.Common.{◌<◌, ◌≤◌, List, ℕ, rules, arith, ◌∙◌}
use Rattle.kc_memory.specs.Stays.{stays_on}
use Rattle.kc_slub.proofs.Steps.{nodes_stop, nodes_go, nodes_end}
use Rattle.kc_slub.proofs.walk.walk_nodes.Goals as goal

pub returns-in-Err-clause-exact : goal.returns-in-Err-clause-exact
returns-in-Err-clause-exact g c =
    nodes_stop _ _ (g.S.Space.image c.args.space.now) g.C.Rings.ring_by g.C.Chains.free_by c.args.pass.now.asked c.args.pass.now.shape c.args.pass.now.bases c.args.pass.now.objects c.args.pass.now.bases.nodes (g.C.Rings.lists c.args.chains.now) c.loop-i.slabs (g.C.Rings.lists c.loop-i.chains) c.loop-i.i c.in-Err.stop
    c.loop-i.invariant.same (search rules) (rw c.loop-i.invariant.stays.same_image at c.in-Err.ensures.exact)

pub loop-i-preserved : goal.loop-i-preserved
loop-i-preserved g c = record {
  same = nodes_go (λ (x : Unit {0}). (c.check_node.new.slabs, g.C.Rings.lists c.check_node.new.chains)) (g.S.Space.image c.args.space.now) g.C.Rings.ring_by g.C.Chains.free_by c.args.pass.now.asked c.args.pass.now.shape c.args.pass.now.bases c.args.pass.now.objects c.args.pass.now.bases.nodes (g.C.Rings.lists c.args.chains.now) c.loop-i.slabs (g.C.Rings.lists c.loop-i.chains) c.loop-i.i _ tt
      (omega arith) c.loop-i.invariant.same (search rules) (rw c.loop-i.invariant.stays.same_image at c.in-Ok.ensures.exact);
  inside = search rules;
  stays = stays_on g.S.Space.image g.S.Space.files g.S.Space.through g.S.Space.most _ _ _ c.loop-i.invariant.stays c.in-Ok.ensures.stays;
  pays = λ paid. omega (arith, c.loop-i.invariant.pays paid, c.in-Ok.ensures.pays paid);
  quiet = c.in-Ok.ensures.cause ∙ c.loop-i.invariant.quiet;
}

pub returns-clause-exact : goal.returns-clause-exact
returns-clause-exact g c =
    nodes_end (λ (x : List ℕ). (x, g.C.Rings.lists c.loop-i.chains)) (g.S.Space.image c.args.space.now) g.C.Rings.ring_by g.C.Chains.free_by c.args.pass.now.asked c.args.pass.now.shape c.args.pass.now.bases c.args.pass.now.objects c.args.pass.now.bases.nodes (g.C.Rings.lists c.args.chains.now) c.loop-i.i c.loop-i.slabs
    c.loop-i.invariant.same (search rules)

pub returns-in-Err-clause-pays : goal.returns-in-Err-clause-pays
returns-in-Err-clause-pays g c = λ paid.
    let inside : c.loop-i.i < c.args.pass.now.bases.nodes = search rules in
    omega (arith, inside, c.loop-i.invariant.pays paid, c.in-Err.ensures.pays paid)

pub returns-clause-pays : goal.returns-clause-pays
returns-clause-pays g c = λ paid.
    let inside : c.loop-i.i ≤ c.args.pass.now.bases.nodes = search rules in
    omega (arith, inside, c.loop-i.invariant.pays paid)
