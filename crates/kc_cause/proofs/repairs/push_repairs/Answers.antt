use Rattle.std.proofs.Common.{◌≡◌, Some, None, ap, rules}
use Rattle.kc_mem.specs.Paged.{with_paging}
use Rattle.kc_plan.specs.Planned.{audit_seen}
use Rattle.kc_cause.proofs.RepairLemmas.{repairs_told}
use Rattle.kc_cause.proofs.repairs.push_repairs.Goals as goal

pub returns-in-Ok-Some-clause-added : goal.returns-in-Ok-Some-clause-added
returns-in-Ok-Some-clause-added g c =
    let number : c.found.inside.audit ≡ c.args.found.now.audit = search rules in
    repairs_told (with_paging c.args.over.now.paging (g.F.Frames.image c.args.memory)) _
    c.push_repairs_as.result.answer c.args.over.now c.args.root c.args.found.now (audit_seen c.audit.result.now) (Some c.in-Ok-Some.ring) c.in-Ok-Some.ring.kind c.in-Ok-Some.ring.found _ _
    (search rules) (ap (with_paging c.args.over.now.paging) c.as_ring_over-memory.ensures.reads.stays.same_image) (search rules) (search rules) (rw number at c.push_repairs_as.ensures.added)

pub returns-in-Ok-None-clause-added : goal.returns-in-Ok-None-clause-added
returns-in-Ok-None-clause-added g c =
    let number : c.found.inside.audit ≡ c.args.found.now.audit = search rules in
    repairs_told (with_paging c.args.over.now.paging (g.F.Frames.image c.args.memory)) _
    c.push_repairs_as-in-Ok-None.result.answer c.args.over.now c.args.root c.args.found.now (audit_seen c.audit.result.now) None (audit_seen c.audit.result.now).kind c.args.found.now _ _
    (search rules) (ap (with_paging c.args.over.now.paging) c.as_ring_over-memory.ensures.reads.stays.same_image) (search rules) (search rules) (rw number at c.push_repairs_as-in-Ok-None.ensures.added)
