use Rattle.std.proofs.Common.{◌+◌, drop, rules}
use Rattle.std.proofs.Math.ListN.{drop_of_length-le}
use Rattle.kc_memory.specs.Stays.{stays_on}
use Rattle.kc_view.specs.TaskLists.{task_of}
use Rattle.kc_owner.specs.Area.Modules.{in_module}
use Rattle.kc_owner.proofs.AreaLemmas.Finding.{counts, done, found, item, next, none_quiet, stopped}
use Rattle.kc_owner.proofs.area.modules.in_modules.Goals as goal

pub returns-in-Ok-Some-clause-exact : goal.returns-in-Ok-Some-clause-exact
returns-in-Ok-Some-clause-exact g c =
    found (g.S.Space.image c.args.space.now) (λ i node. in_module i c.args.pass.now.shape c.args.pass.now.address (task_of c.args.pass.now.shape.link node)) c.args.nodes.now (drop c.loop-i.i c.args.nodes.now) (drop (c.loop-i.i + 1) c.args.nodes.now) c.loop-i.missed c.pass_broken.new.missed c.get-node.result.now c.in_module-told.result c.in-Ok-Some.found
    (item c.args.nodes.now c.loop-i.i c.get-node.result.now c.get-node.ensures) c.loop-i.invariant.left (rw c.module_by-module_va.ensures at (rw c.loop-i.invariant.stays.same_image at c.in_module-told.ensures.exact)) (rw c.in-Ok-Some.field-0-is at c.in-Ok-Some.ensures)

pub returns-in-Ok-Some-clause-cause : goal.returns-in-Ok-Some-clause-cause
returns-in-Ok-Some-clause-cause g c =
    counts c.loop-i.missed c.pass_broken.new.missed c.in_module-told.result _ _ _ _ c.in-Ok-Some.ensures c.loop-i.invariant.quiet c.in_module-told.ensures.cause

pub returns-in-Err-clause-exact : goal.returns-in-Err-clause-exact
returns-in-Err-clause-exact g c = stopped (g.S.Space.image c.args.space.now) _ c.loop-i.missed c.pass_broken.new.missed c.in_module-told.result c.in-Err.stop c.in-Err.ensures

pub returns-in-Err-clause-cause : goal.returns-in-Err-clause-cause
returns-in-Err-clause-cause g c =
    counts c.loop-i.missed c.pass_broken.new.missed c.in_module-told.result _ _ _ _ c.in-Err.ensures c.loop-i.invariant.quiet c.in_module-told.ensures.cause

pub loop-i-preserved : goal.loop-i-preserved
loop-i-preserved g c = record {
  left = next (g.S.Space.image c.args.space.now) (λ i node. in_module i c.args.pass.now.shape c.args.pass.now.address (task_of c.args.pass.now.shape.link node)) c.args.nodes.now (drop c.loop-i.i c.args.nodes.now) (drop (c.loop-i.i + 1) c.args.nodes.now) c.loop-i.missed c.pass_broken.new.missed c.get-node.result.now c.in_module-told.result
      (item c.args.nodes.now c.loop-i.i c.get-node.result.now c.get-node.ensures) c.loop-i.invariant.left (rw c.module_by-module_va.ensures at (rw c.loop-i.invariant.stays.same_image at c.in_module-told.ensures.exact)) (rw c.in-Ok-None.field-0-is at c.in-Ok-None.ensures);
  inside = search rules;
  stays = stays_on g.S.Space.image g.S.Space.files g.S.Space.through g.S.Space.most _ _ _ c.loop-i.invariant.stays c.in_module-told.ensures.stays;
  quiet = counts c.loop-i.missed c.pass_broken.new.missed c.in_module-told.result _ _ _ _ c.in-Ok-None.ensures c.loop-i.invariant.quiet c.in_module-told.ensures.cause;
}

pub returns-clause-exact : goal.returns-clause-exact
returns-clause-exact g c =
    done (g.S.Space.image c.args.space.now) (λ i node. in_module i c.args.pass.now.shape c.args.pass.now.address (task_of c.args.pass.now.shape.link node)) c.args.nodes.now (drop c.loop-i.i c.args.nodes.now) c.loop-i.missed c.none_found.result
    (drop_of_length-le c.args.nodes.now (search rules)) c.loop-i.invariant.left c.none_found.ensures

pub returns-clause-cause : goal.returns-clause-cause
returns-clause-cause g c = none_quiet c.loop-i.missed c.none_found.result _ _ c.none_found.ensures c.loop-i.invariant.quiet
