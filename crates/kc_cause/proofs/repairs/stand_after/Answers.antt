use Rattle.kc_plan.specs.Views.{plan_seen}
use Rattle.kc_cause.proofs.MendedLemmas.{stand-told}
use Rattle.kc_cause.proofs.repairs.stand_after.Goals as goal

pub returns-in-Ok-clause-exact : goal.returns-in-Ok-clause-exact
returns-in-Ok-clause-exact g c =
    stand-told _ (plan_seen c.args.over.now.plan.now) (c.args.root.audit, c.args.root.start) c.args.kind.now c.args.found.now c.args.repair c.in-Stands.first c.stand_over-memory.result.answer c.in-Ok.stand
    c.in-Stands.is c.in-Ok.is c.stand_over-memory.ensures.exact
