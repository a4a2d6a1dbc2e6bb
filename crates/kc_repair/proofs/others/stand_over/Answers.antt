use Rattle.std.proofs.Common.{ap, length, sym, ◌∙◌}
use Rattle.kc_mem.specs.Paged.{with_paging}
use Rattle.kc_plan.specs.Views.{plan_seen}
use Rattle.kc_repair.specs.Repairs.{IsSuspected}
use Rattle.kc_repair.proofs.Determined.{answered, walk-inside}
use Rattle.kc_repair.proofs.Beside.{others-seen}
use Rattle.kc_repair.proofs.others.stand_over.Goals as goal

pub returns-in-Ok-clause-exact : goal.returns-in-Ok-clause-exact
returns-in-Ok-clause-exact g c =
    others-seen _ _ (plan_seen c.args.audit.now.plan.now) (c.args.audit.now.root.audit, c.args.audit.now.root.start) c.args.kind.now c.args.found.now c.in-Ok.seen c.args.first c.try_others.result.answer
    (ap (with_paging c.args.paging) c.ask_over-memory.ensures.stays.same_image)
    (answered _ c.ask_over-memory.result.answer c.in-Ok.seen (λ image seen. IsSuspected image (plan_seen c.args.audit.now.plan.now) c.args.kind.now c.args.found.now seen) (sym c.unwrap_or.ensures ∙ c.in-Ok.is) c.ask_over-memory.ensures.says)
    (rw c.as_slice.ensures at c.try_others.ensures.exact)

pub try_others-requires-clause-walk : goal.try_others-requires-clause-walk
try_others-requires-clause-walk g c =
    walk-inside (length c.args.audit.now.types.now.records) c.ask_over-memory.result.answer c.in-Ok.seen _ _ (sym c.unwrap_or.ensures ∙ c.in-Ok.is) c.ask_over-memory.ensures.leaves
