use Rattle.std.proofs.Common.{◌≡◌, drop, map}
use Rattle.kc_plan.specs.Links.{all_named}
use Rattle.kc_plan.specs.Views.{audit_text}
use Rattle.kc_plan.proofs.link.check_named.Given as goal

-- what is left decides
abbrev pub invariant-loop-audit : goal.invariant-loop-audit
invariant-loop-audit l =
    (all_named l.links l.number (map audit_text (drop l.audit-index l.audits)) ≡ all_named l.links 0 (map audit_text l.audits)) × (l.number ≡ l.audit-index)
