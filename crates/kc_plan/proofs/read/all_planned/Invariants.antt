use Rattle.std.proofs.Common.{◌≡◌, [], drop, length, map}
use Rattle.kc_plan.specs.Inside.{AreInside}
use Rattle.kc_plan.specs.Planned.{audits_seen}
use Rattle.kc_plan.specs.Plans.{all_planned}
use Rattle.kc_kinds.specs.Kernels.{kernel}
use Rattle.kc_plan.specs.Views.{audit_text}
use Rattle.kc_plan.proofs.read.all_planned.Given as goal

-- the audits so far, and then those that are left
abbrev pub invariant-loop-audit : goal.invariant-loop-audit
invariant-loop-audit l =
    (all_planned (kernel l.known) l.links (audits_seen l.planned_so_far) (map audit_text (drop l.audit-index l.audits)) ≡ all_planned (kernel l.known) l.links [] (map audit_text l.audits))
    × (length l.planned_so_far ≡ l.audit-index)
    × AreInside (length l.known.btf.now.records) l.planned_so_far
