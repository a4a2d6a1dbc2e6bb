use Rattle.kc_plan.specs.Views.{plan_seen}
use Rattle.kc_cause.proofs.MendedLemmas.{elements-changed}
use Rattle.kc_cause.proofs.repairs.elements_with.Goals as goal

pub returns-in-Ok-clause-exact : goal.returns-in-Ok-clause-exact
returns-in-Ok-clause-exact g c =
    elements-changed _ (plan_seen c.args.over.now.plan.now) (c.args.root.audit, c.args.root.start) c.args.number c.args.repair c.args.words.now c.in-Ok.changed c.elements_after.result.answer
    c.in-Ok.ensures c.elements_after.ensures.exact
