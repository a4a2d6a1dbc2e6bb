use Rattle.std.proofs.Common.{◌∙◌}
use Rattle.kc_plan.specs.Views.{plan_seen}
use Rattle.kc_repair.proofs.Changing.{tried}
use Rattle.kc_repair.proofs.trial.try_suspect.Goals as goal

pub returns-in-Ok-clause-exact : goal.returns-in-Ok-clause-exact
returns-in-Ok-clause-exact g c =
    tried c.know_changes.ensures.last _ c.judged_over.result.answer (plan_seen c.args.by.now.audit.now.plan.now) (c.args.by.now.audit.now.root.audit, c.args.by.now.audit.now.root.start) c.args.by.now.walk.now
    c.args.by.now.only c.args.earlier.now c.as_slice.result.now c.args.suspect (c.as_slice.ensures ∙ c.in-Ok.ensures) c.judged_over.ensures.exact
