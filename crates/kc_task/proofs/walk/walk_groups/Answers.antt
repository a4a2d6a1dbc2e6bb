use Rattle.std.proofs.Common.{◌<◌, ◌≤◌, List, ℕ, length, rules, arith, ◌∙◌}
use Rattle.kc_memory.specs.Stays.{stays_on}
use Rattle.kc_steps.specs.TasksBy.{leader_by}
use Rattle.kc_task.proofs.Passing.{gather_stop, gather_go, gather_end}
use Rattle.kc_task.proofs.walk.walk_groups.Goals as goal

pub returns-in-Err-clause-exact : goal.returns-in-Err-clause-exact
returns-in-Err-clause-exact g c =
    gather_stop _ _ (g.S.Space.image c.args.space.now) (λ i. leader_by i (g.R.Rings.ring_by i) c.args.pass.now.asked c.args.pass.now.shape) c.args.leaders.now (g.R.Rings.lists c.args.rings.now) c.loop-i.threads (g.R.Rings.lists c.loop-i.rings) c.loop-i.i c.get-leader.result.now c.in-Err.stop
    c.loop-i.invariant.same c.get-leader.ensures (rw c.loop-i.invariant.stays.same_image at c.in-Err.ensures.exact)

pub loop-i-preserved : goal.loop-i-preserved
loop-i-preserved g c = record {
  same = gather_go (λ (x : Unit {0}). (c.add_threads.new.threads, g.R.Rings.lists c.add_threads.new.rings)) (g.S.Space.image c.args.space.now) (λ i. leader_by i (g.R.Rings.ring_by i) c.args.pass.now.asked c.args.pass.now.shape) c.args.leaders.now (g.R.Rings.lists c.args.rings.now) c.loop-i.threads (g.R.Rings.lists c.loop-i.rings) c.loop-i.i _ c.get-leader.result.now tt
      (omega arith) c.loop-i.invariant.same c.get-leader.ensures (rw c.loop-i.invariant.stays.same_image at c.in-Ok.ensures.exact);
  inside = search rules;
  stays = stays_on g.S.Space.image g.S.Space.files g.S.Space.through g.S.Space.most _ _ _ c.loop-i.invariant.stays c.in-Ok.ensures.stays;
  pays = λ paid. omega (arith, c.loop-i.invariant.pays paid, c.in-Ok.ensures.pays paid);
  quiet = c.in-Ok.ensures.cause ∙ c.loop-i.invariant.quiet;
}

pub returns-clause-exact : goal.returns-clause-exact
returns-clause-exact g c =
    gather_end (λ (x : List ℕ). (x, g.R.Rings.lists c.loop-i.rings)) (g.S.Space.image c.args.space.now) (λ i. leader_by i (g.R.Rings.ring_by i) c.args.pass.now.asked c.args.pass.now.shape) c.args.leaders.now (g.R.Rings.lists c.args.rings.now) c.loop-i.i c.loop-i.threads c.loop-i.invariant.same (search rules)

pub returns-in-Err-clause-pays : goal.returns-in-Err-clause-pays
returns-in-Err-clause-pays g c = λ paid.
    let inside : c.loop-i.i < length c.args.leaders.now = search rules in
    omega (arith, inside, c.loop-i.invariant.pays paid, c.in-Err.ensures.pays paid)

pub returns-clause-pays : goal.returns-clause-pays
returns-clause-pays g c = λ paid.
    let inside : c.loop-i.i ≤ length c.args.leaders.now = search rules in
    omega (arith, inside, c.loop-i.invariant.pays paid)
