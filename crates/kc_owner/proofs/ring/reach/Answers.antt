use Rattle.std.proofs.Common.{arith, rules, ◌∙◌}
use Rattle.kc_memory.specs.Stays.{stays_on}
use Rattle.kc_owner.specs.Rings.{most_nodes}
use Rattle.kc_owner.proofs.RingLemmas.{reach_begin, reach_done, reach_next, reach_none}
use Rattle.kc_owner.proofs.ring.reach.Goals as goal

pub loop-left-init : goal.loop-left-init
loop-left-init g c = record {
  far = rw c.new-nodes.ensures (reach_begin c.args.way c.args.ends most_nodes (g.S.Space.image c.args.space.now));
  few = omega arith;
  inside = omega arith;
  stays = search rules;
  quiet = search rules;
}

pub loop-left-preserved : goal.loop-left-preserved
loop-left-preserved g c = record {
  far = reach_next c.args.way c.args.ends most_nodes (g.S.Space.image c.args.space.now) c.loop-left.nodes _ c.loop-left.left c.loop-left.node c.in-Ok-Some.next
      (search rules) c.in_ok-push_node.ensures.added (rw (c.loop-left.invariant.stays.same_image, c.in-Ok-Some.field-0-is) at c.in-Ok-Some.ensures.exact) c.loop-left.invariant.far;
  few = omega (arith, c.loop-left.invariant.few, c.loop-left.invariant.inside);
  inside = omega (arith, c.loop-left.invariant.inside);
  stays = stays_on g.S.Space.image g.S.Space.files g.S.Space.through g.S.Space.most _ _ _ c.loop-left.invariant.stays c.in-Ok-Some.ensures.stays;
  quiet = c.in-Ok-Some.ensures.cause ∙ c.loop-left.invariant.quiet;
}

pub returns-in-Ok-None-clause-exact : goal.returns-in-Ok-None-clause-exact
returns-in-Ok-None-clause-exact g c =
    reach_none c.args.way c.args.ends most_nodes (g.S.Space.image c.args.space.now) c.loop-left.nodes c.loop-left.left c.loop-left.node
    (search rules) (rw (c.loop-left.invariant.stays.same_image, c.in-Ok-None.field-0-is) at c.in-Ok-None.ensures.exact) c.loop-left.invariant.far

pub returns-clause-exact : goal.returns-clause-exact
returns-clause-exact g c =
    reach_done c.args.way c.args.ends most_nodes (g.S.Space.image c.args.space.now) c.loop-left.nodes c.loop-left.left c.loop-left.node (search rules) c.loop-left.invariant.far
