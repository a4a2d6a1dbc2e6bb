use Rattle.std.proofs.Common.{ap}
use Rattle.kc_mem.specs.Paged.{with_paging}
use Rattle.kc_plan.specs.Views.{plan_seen}
use Rattle.kc_cause.proofs.ChainLemmas.{left-judged}
use Rattle.kc_cause.proofs.chain.left_after.Goals as goal

pub returns-in-Ok-clause-exact : goal.returns-in-Ok-clause-exact
returns-in-Ok-clause-exact g c =
    left-judged _ _ (plan_seen c.args.over.now.plan.now) (c.args.root.audit, c.args.root.start) c.args.walk c.args.words.now c.judged_over-memory.result.answer c.in-Ok.verdict c.with_walk.result.answer
    (ap (with_paging c.args.over.now.paging) c.judged_over-memory.ensures.reads.stays.same_image) c.in-Ok.is c.judged_over-memory.ensures.exact c.with_walk.ensures.exact
