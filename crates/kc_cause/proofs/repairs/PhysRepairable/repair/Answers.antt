use Rattle.std.proofs.Common.{ap}
use Rattle.kc_mem.specs.Paged.{with_paging}
use Rattle.kc_plan.specs.Views.{plan_seen}
use Rattle.kc_cause.proofs.MendedLemmas.{mended-as}
use Rattle.kc_cause.proofs.repairs.PhysRepairable.repair.Goals as goal

pub returns-in-Ok-clause-exact : goal.returns-in-Ok-clause-exact
returns-in-Ok-clause-exact g c =
    mended-as _ _ (plan_seen c.args.over.now.plan.now) (c.args.root.audit, c.args.root.start) c.args.kind.now c.args.found.now c.args.number c.repair_over-memory.result.repair c.in-Ok.repair c.with_all.result.answer
    (ap (with_paging c.args.over.now.paging) c.repair_over-memory.ensures.stays.same_image) c.in-Ok.is c.repair_over-memory.ensures.exact c.with_all.ensures.exact
