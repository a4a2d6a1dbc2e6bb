use Rattle.std.proofs.Common.{rules}
use Rattle.kc_plan.specs.Planned.{audit_seen}
use Rattle.kc_cause.proofs.RepairLemmas.{shown_added}
use Rattle.kc_cause.proofs.places.push_with_slabs.Goals as goal

pub returns-clause-added : goal.returns-clause-added
returns-clause-added g c =
    shown_added (g.M.Space.image c.args.memory.now) _ c.push_slabs.result c.args.over.now c.args.found.now (audit_seen c.audit-audit.result.now) _ _ _
    (search rules) c.in_ok-push_listed.ensures.reads.stays.same_image c.in_ok-push_listed.ensures.added c.push_slabs.ensures.added
