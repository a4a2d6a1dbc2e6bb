use Rattle.kc_plan.specs.Views.{plan_seen}
use Rattle.kc_repair.proofs.Beside.{others-tried}
use Rattle.kc_repair.proofs.others.try_others.Goals as goal

pub returns-in-Ok-clause-exact : goal.returns-in-Ok-clause-exact
returns-in-Ok-clause-exact g c =
    others-tried _ (plan_seen c.args.audit.now.plan.now) (c.args.audit.now.root.audit, c.args.audit.now.root.start) c.args.walk.now c.args.suspects.now c.next_ones-others.result.now c.args.first _ _ c.is_some.result
    c.first_that_repairs-memory.result.answer c.in-Ok.second c.up_to-tried.ensures.exact c.next_ones-others.ensures.exact c.up_to_found.ensures.exact c.is_some.ensures c.in-Ok.is c.first_that_repairs-memory.ensures.exact
