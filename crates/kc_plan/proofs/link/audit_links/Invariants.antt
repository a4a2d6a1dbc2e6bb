use Rattle.std.proofs.Common.{◌≡◌, [], drop, map}
use Rattle.kc_plan.specs.Links.{audit_links}
use Rattle.kc_plan.specs.Views.{audit_text}
use Rattle.kc_plan.proofs.link.audit_links.Given as goal

-- the links so far, and then those of the audits that are left
abbrev pub invariant-loop-audit : goal.invariant-loop-audit
invariant-loop-audit l =
    (audit_links (map audit_text l.audits) l.number l.links.items (map audit_text (drop l.audit-index l.audits)) ≡ audit_links (map audit_text l.audits) 0 [] (map audit_text l.audits)) × (l.number ≡ l.audit-index)
