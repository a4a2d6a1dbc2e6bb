use Rattle.std.proofs.Common.{rules}
use Rattle.kc_plan.specs.Planned.{audit_seen}
use Rattle.kc_cause.proofs.RepairLemmas.{listed_added}
use Rattle.kc_cause.proofs.places.push_listed.Goals as goal

pub returns-clause-added : goal.returns-clause-added
returns-clause-added g c =
    listed_added (g.M.Space.image c.args.memory.now) _ c.push_places_told.result c.args.over.now c.args.found.now (audit_seen c.audit-audit.result.now) c.found.inside.places _ _ _
    (search rules)
    (search rules) c.in_ok-push_ring.ensures.reads.stays.same_image c.in_ok-push_ring.ensures.added c.push_places_told.ensures.added
