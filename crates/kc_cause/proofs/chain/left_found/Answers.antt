use Rattle.std.proofs.Common.{Some, None, ap, rules}
use Rattle.kc_mem.specs.Paged.{with_paging}
use Rattle.kc_plan.specs.Planned.{audit_seen}
use Rattle.kc_plan.specs.Views.{plan_seen}
use Rattle.kc_cause.proofs.ChainLemmas.{found-left}
use Rattle.kc_cause.proofs.chain.left_found.Goals as goal

pub returns-in-Ok-Some-clause-exact : goal.returns-in-Ok-Some-clause-exact
returns-in-Ok-Some-clause-exact g c =
    found-left _ _ c.left_as.result.answer (plan_seen c.args.over.now.plan.now) (c.args.root.audit, c.args.root.start) c.args.words.now c.args.found.now (audit_seen c.audit.result.now)
    (Some c.in-Ok-Some.ring) c.in-Ok-Some.ring.kind c.in-Ok-Some.ring.found
    (search rules) (ap (with_paging c.args.over.now.paging) c.as_ring_left-memory.ensures.reads.stays.same_image) (search rules) (search rules) c.left_as.ensures.exact

pub returns-in-Ok-None-clause-exact : goal.returns-in-Ok-None-clause-exact
returns-in-Ok-None-clause-exact g c =
    found-left _ _ c.left_as-in-Ok-None.result.answer (plan_seen c.args.over.now.plan.now) (c.args.root.audit, c.args.root.start) c.args.words.now c.args.found.now (audit_seen c.audit.result.now)
    None (audit_seen c.audit.result.now).kind c.args.found.now
    (search rules) (ap (with_paging c.args.over.now.paging) c.as_ring_left-memory.ensures.reads.stays.same_image) (search rules) (search rules) c.left_as-in-Ok-None.ensures.exact
