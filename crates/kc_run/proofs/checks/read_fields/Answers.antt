use Rattle.std.proofs.Common.{◌∙◌, arith}
use Rattle.std.proofs.lemmas.Grind.{common_steps}
use Rattle.kc_memory.specs.Stays.{stays_on}
use Rattle.kc_run.proofs.Checking.{fields_go, fields_stop}
use Rattle.kc_run.proofs.checks.read_fields.Goals as goal

pub returns-in-Err-clause-exact : goal.returns-in-Err-clause-exact
returns-in-Err-clause-exact g c =
    fields_stop _ _ (g.S.Space.image c.args.space.now) c.args.asked.now c.args.element.now.at c.args.fields.now c.loop-i.numbers c.loop-i.i c.get.result.now c.in-Err.stop c.stopped.result
    c.get.ensures c.loop-i.invariant.0 (rw c.loop-i.invariant.1.same_image at c.in-Err.ensures.exact) c.stopped.ensures

pub loop-i-preserved : goal.loop-i-preserved
loop-i-preserved g c = (
  fields_go (g.S.Space.image c.args.space.now) c.args.element.now.at c.args.fields.now c.loop-i.numbers c.push.new.self c.loop-i.i c.get.result.now c.in-Ok.number c.get.ensures c.in-Ok-push.ensures.added c.loop-i.invariant.0
      (rw c.loop-i.invariant.1.same_image at c.in-Ok.ensures.exact),
  stays_on _ _ _ _ c.args.space.now c.loop-i.space c.read_one.new.space c.loop-i.invariant.1 c.in-Ok.ensures.stays,
  c.in-Ok.ensures.cause ∙ c.loop-i.invariant.2,
  grind (arith, common_steps, c.in-Ok-push.ensures.added, c.loop-i.invariant.3),
  omega (arith, c.in-Ok.ensures.steps, c.loop-i.invariant.4),
)
