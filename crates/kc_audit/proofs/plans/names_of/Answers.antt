use Rattle.std.proofs.Common.{◌++◌, ◌∷◌, [], sym, ap, ◌∙◌}
use Rattle.kc_plan.specs.Planned.{audit_seen}
use Rattle.kc_plan.specs.Views.{plan_seen}
use Rattle.kc_audit.proofs.NameLemmas.{name_more}
use Rattle.kc_audit.proofs.plans.names_of.Goals as goal

pub loop-number-preserved : goal.loop-number-preserved
loop-number-preserved c =
    c.in_ok-push_copy.ensures.added ∙ ap (λ l. l ++ c.audit.result.now.name ∷ []) c.loop-number.invariant
    ∙ sym (name_more (plan_seen c.args.plan.now) c.loop-number.number (audit_seen c.audit.result.now) c.audit.ensures.seen)
