use Rattle.std.proofs.Common.{◌+◌, ◌∙◌, arith, drop, rules}
use Rattle.std.proofs.Math.ListN.{drop_of_length-le}
use Rattle.kc_memory.specs.Stays.{stays_on}
use Rattle.kc_owner.proofs.AreaLemmas.Finding.{item}
use Rattle.kc_owner.proofs.AreaLemmas.Grouping.{group_begin, group_done, group_full, group_next}
use Rattle.kc_owner.proofs.area.stacks.read_groups.Goals as goal

pub loop-i-init : goal.loop-i-init
loop-i-init g c = record {
  so_far = rw c.new-tasks.ensures (group_begin (g.S.Space.image c.args.space.now) c.args.shape.now c.args.leaders.now);
  inside = omega arith;
  stays = search rules;
  quiet = search rules;
}

pub loop-i-preserved : goal.loop-i-preserved
loop-i-preserved g c = record {
  so_far = group_next (g.S.Space.image c.args.space.now) c.args.shape.now c.args.leaders.now c.loop-i.tasks _ _ (drop c.loop-i.i c.args.leaders.now) (drop (c.loop-i.i + 1) c.args.leaders.now) c.get-leader.result.now
      (item c.args.leaders.now c.loop-i.i c.get-leader.result.now c.get-leader.ensures) (search rules) (rw c.as_slice.ensures at c.in_ok-join.ensures.added)
      (rw c.loop-i.invariant.stays.same_image at c.in_ok-group.ensures.exact) c.loop-i.invariant.so_far;
  inside = search rules;
  stays = stays_on g.S.Space.image g.S.Space.files g.S.Space.through g.S.Space.most _ _ _ c.loop-i.invariant.stays c.in_ok-group.ensures.stays;
  quiet = c.in_ok-group.ensures.cause ∙ c.loop-i.invariant.quiet;
}

pub returns-then-len-ge-MOST-clause-exact : goal.returns-then-len-ge-MOST-clause-exact
returns-then-len-ge-MOST-clause-exact g c =
    group_full (g.S.Space.image c.args.space.now) c.args.shape.now c.args.leaders.now c.loop-i.tasks (drop c.loop-i.i c.args.leaders.now) (search rules) c.loop-i.invariant.so_far

pub returns-clause-exact : goal.returns-clause-exact
returns-clause-exact g c =
    group_done (g.S.Space.image c.args.space.now) c.args.shape.now c.args.leaders.now c.loop-i.tasks (drop c.loop-i.i c.args.leaders.now)
    (drop_of_length-le c.args.leaders.now (search rules)) c.loop-i.invariant.so_far
