use Rattle.std.proofs.Common.{◌+◌, drop, rules, ◌∙◌}
use Rattle.std.proofs.Math.ListN.{drop_of_length-le}
use Rattle.kc_memory.specs.Stays.{stays_on}
use Rattle.kc_view.specs.TaskLists.{task_of}
use Rattle.kc_which.specs.TaskRings.{in_group}
use Rattle.kc_which.proofs.Finding.{done, found, item, next, stopped}
use Rattle.kc_which.proofs.tasks.in_all_groups.Goals as goal

pub returns-in-Ok-Some-clause-exact : goal.returns-in-Ok-Some-clause-exact
returns-in-Ok-Some-clause-exact g c =
    found (g.S.Space.image c.args.space.now) (λ i node. in_group i c.args.shape.now c.args.found.now (task_of c.args.shape.now.tasks node)) c.args.nodes.now (drop c.loop-i.i c.args.nodes.now) (drop (c.loop-i.i + 1) c.args.nodes.now) c.get-node.result.now c.in-Ok-Some.which
    (item c.args.nodes.now c.loop-i.i c.get-node.result.now c.get-node.ensures) c.loop-i.invariant.left (rw c.task_of-leader.ensures at (rw (c.in-Ok-Some.field-0-is, c.loop-i.invariant.stays.same_image) at c.in-Ok-Some.ensures.exact))

pub returns-in-Err-clause-exact : goal.returns-in-Err-clause-exact
returns-in-Err-clause-exact g c =
    stopped (g.S.Space.image c.args.space.now) (λ i node. in_group i c.args.shape.now c.args.found.now (task_of c.args.shape.now.tasks node)) c.args.nodes.now (drop c.loop-i.i c.args.nodes.now) (drop (c.loop-i.i + 1) c.args.nodes.now) c.get-node.result.now c.in-Err.stop
    (item c.args.nodes.now c.loop-i.i c.get-node.result.now c.get-node.ensures) c.loop-i.invariant.left (rw c.task_of-leader.ensures at (rw c.loop-i.invariant.stays.same_image at c.in-Err.ensures.exact))

pub loop-i-preserved : goal.loop-i-preserved
loop-i-preserved g c = record {
  left = next (g.S.Space.image c.args.space.now) (λ i node. in_group i c.args.shape.now c.args.found.now (task_of c.args.shape.now.tasks node)) c.args.nodes.now (drop c.loop-i.i c.args.nodes.now) (drop (c.loop-i.i + 1) c.args.nodes.now) c.get-node.result.now
      (item c.args.nodes.now c.loop-i.i c.get-node.result.now c.get-node.ensures) c.loop-i.invariant.left (rw c.task_of-leader.ensures at (rw (c.in-Ok-None.field-0-is, c.loop-i.invariant.stays.same_image) at c.in-Ok-None.ensures.exact));
  inside = search rules;
  stays = stays_on g.S.Space.image g.S.Space.files g.S.Space.through g.S.Space.most _ _ _ c.loop-i.invariant.stays c.in-Ok-None.ensures.reads.stays;
  quiet = c.in-Ok-None.ensures.reads.cause ∙ c.loop-i.invariant.quiet;
}

pub returns-clause-exact : goal.returns-clause-exact
returns-clause-exact g c =
    done (g.S.Space.image c.args.space.now) (λ i node. in_group i c.args.shape.now c.args.found.now (task_of c.args.shape.now.tasks node)) c.args.nodes.now (drop c.loop-i.i c.args.nodes.now)
    (drop_of_length-le c.args.nodes.now (search rules)) c.loop-i.invariant.left
