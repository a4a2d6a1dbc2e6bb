use Rattle.std.proofs.Common.{ap}
use Rattle.kc_mem.specs.Paged.{with_paging}
use Rattle.kc_plan.specs.Views.{plan_seen}
use Rattle.kc_cause.proofs.MendedLemmas.{all-told}
use Rattle.kc_cause.proofs.repairs.with_all.Goals as goal

pub returns-in-Ok-clause-exact : goal.returns-in-Ok-clause-exact
returns-in-Ok-clause-exact g c =
    all-told _ _ (plan_seen c.args.over.now.plan.now) (c.args.root.audit, c.args.root.start) c.args.kind.now c.args.found.now c.args.number c.args.repair c.stand_after-memory.result.answer c.in-Ok.stand c.with_words.result.answer
    (ap (with_paging c.args.over.now.paging) c.stand_after-memory.ensures.reads.stays.same_image) c.in-Ok.is c.stand_after-memory.ensures.exact c.with_words.ensures.exact
