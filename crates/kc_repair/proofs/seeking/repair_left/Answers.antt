use Rattle.std.proofs.Common.{ap}
use Rattle.kc_mem.specs.Paged.{with_paging}
use Rattle.kc_plan.specs.Views.{plan_seen}
use Rattle.kc_repair.proofs.Left.{repairs-left}
use Rattle.kc_repair.proofs.seeking.repair_left.Goals as goal

pub returns-in-Ok-clause-exact : goal.returns-in-Ok-clause-exact
returns-in-Ok-clause-exact g c =
    repairs-left _ _ (plan_seen c.args.audit.now.plan.now) (c.args.audit.now.root.audit, c.args.audit.now.root.start) c.args.earlier.now c.args.kind.now c.args.found.now
    c.suspected_left-memory.result.answer c.in-Ok.left c.try_all.result.repair
    (ap (with_paging c.args.paging) c.suspected_left-memory.ensures.reads.stays.same_image) c.in-Ok.is c.suspected_left-memory.ensures.exact (rw c.as_slice.ensures at c.try_all.ensures.exact)
