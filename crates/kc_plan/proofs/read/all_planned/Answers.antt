use Rattle.std.proofs.Common.{arith, ◌≡◌, length, map, drop, ℕ, ◌+◌, List, [], ◌∷◌, ◌++◌, sym, ◌∙◌}
use Rattle.std.proofs.lemmas.Grind.{common_steps}
use Rattle.std.proofs.lemmas.List.Elements.{All-push}
use Rattle.std.proofs.lemmas.List.{drop_more, length-map, map-append}
use Rattle.std.specs.Prelude.{Result, Ok}
use Rattle.kc_expr.specs.declared.keys.fault.PlanFault.{PlanFault}
use Rattle.kc_plan.specs.declared.item.Link.{Link}
use Rattle.kc_plan.specs.declared.planned.Audit.{Audit}
use Rattle.kc_plan.specs.Audits.{AuditText}
use Rattle.kc_plan.specs.Inside.{IsInside}
use Rattle.kc_plan.specs.Planned.{AuditAt, audit_seen, audits_seen}
use Rattle.kc_kinds.specs.Kernels.{Kernel}
use Rattle.kc_plan.specs.Plans.{all_planned, planned}
use Rattle.kc_kinds.specs.Kernels.{kernel}
use Rattle.kc_plan.specs.Views.{audit_text}
use Rattle.kc_plan.proofs.read.all_planned.Goals as goal

-- an audit more
one_planned : (k : Kernel) (links : List Link) (before more : List Audit) (n : ℕ) (text : AuditText) (texts : List AuditText) (one : Audit) (whole : Result (List AuditAt) PlanFault) →
    planned k links (audits_seen before) n text ≡ Ok (audit_seen one) → length before ≡ n → more ≡ before ++ one ∷ [] →
    all_planned k links (audits_seen before) (text ∷ texts) ≡ whole → all_planned k links (audits_seen more) texts ≡ whole
one_planned k links before more n text texts one whole is number pushed left =
    let size : length (audits_seen before) ≡ n = length-map before audit_seen ∙ number in
    let here = rw (size, is) at left in
    rw (pushed, map-append audit_seen before (one ∷ [])) here

pub loop-audit-preserved : goal.loop-audit-preserved
loop-audit-preserved c = (
  one_planned (kernel c.args.known.now) c.args.links.now c.loop-audit.planned_so_far c.push.new.self c.len-number.result (audit_text c.audit-item.result) (map audit_text (drop (c.loop-audit.audit-index + 1) c.args.audits.now)) c.in_ok-one.one _ c.in_ok-one.ensures.exact (sym c.len-number.ensures) c.in_ok-push.ensures.added
      (rw (drop_more c.args.audits.now c.loop-audit.audit-index c.audit-item.result c.loop-audit-test.true, ← c.audit-item.is) at c.loop-audit.invariant.0),
  grind (arith, common_steps),
  rw c.in_ok-push.ensures.added (All-push (IsInside (length c.args.known.now.btf.now.records)) c.loop-audit.planned_so_far c.in_ok-one.one c.loop-audit.invariant.2 c.in_ok-one.ensures.inside),
)
