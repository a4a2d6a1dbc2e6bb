use Rattle.std.proofs.Common.{◌≡◌, drop, map}
use Rattle.kc_plan.specs.Links.{all_within}
use Rattle.kc_plan.specs.Views.{audit_text}
use Rattle.kc_plan.proofs.link.check_depth.Given as goal

-- what is left decides
abbrev pub invariant-loop-audit : goal.invariant-loop-audit
invariant-loop-audit l =
    (all_within l.links l.number (map audit_text (drop l._audit-index l.audits)) ≡ all_within l.links 0 (map audit_text l.audits)) × (l.number ≡ l._audit-index)
