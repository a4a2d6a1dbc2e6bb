-- Verdicts that fit a plan are of the plan with its names.
use Rattle.std.proofs.Common.{◌≡◌, ℕ, List, length, Option, Some, None, IfSome, sym, ap, ◌∙◌}
use Rattle.std.proofs.lemmas.List.{length-map}
use Rattle.std.proofs.lemmas.List.Elements.{All-weaker}
use Rattle.kc_found.specs.declared.verdict.RootVerdict.{RootVerdict}
use Rattle.kc_found.specs.declared.verdict.Verdict.{Verdict}
use Rattle.kc_found.specs.declared.verdict.Verdict.TheVariants.{Clean, Broken}
use Rattle.kc_plan.specs.Planned.{AuditAt}
use Rattle.kc_plan.specs.Roots.{FitsAmong, FitsRoot}
use Rattle.kc_plan.specs.Verdicts.{FitsPlan}
use Rattle.kc_report.specs.Copies.{IsOfAudits, IsOfPlan, IsOfRoot}
use Rattle.kc_audit.specs.Audits.{names_of}
use Rattle.kc_cause.specs.declared.judged.Judged.{Judged}
use Rattle.kc_cause.specs.Judged.{AreOfPlan, FitsJudged}

fits_verdict : (names : List (List ℕ)) (count : ℕ) (audits : List ℕ) (seen : Verdict) → count ≡ length names → FitsAmong count audits seen → IsOfAudits names audits seen
fits_verdict names count audits (Clean counts) same fits = fits
fits_verdict names count audits (Broken v) same fits = rw (← same) fits

fits_root : (names : List (List ℕ)) (count : ℕ) (audits : List AuditAt) (v : RootVerdict) → count ≡ length names → FitsRoot count audits v → IsOfRoot names v
fits_root names count audits v same fits = record {
  root = rw (← same) fits.root;
  audits = rw (← same) fits.below;
  verdict = fits_verdict names count v.audits v.verdict same fits.verdict;
}

fits_one : (names : List (List ℕ)) (count : ℕ) (v : Verdict) → count ≡ length names → FitsPlan count v → IsOfPlan names v
fits_one names count (Clean counts) same fits = fits ∙ same
fits_one names count (Broken v) same fits = rw (← same) fits

fits_whole : (names : List (List ℕ)) (count : ℕ) (v : Option Verdict) → count ≡ length names → IfSome v (FitsPlan count) → IfSome v (IsOfPlan names)
fits_whole names count None same fits = tt
fits_whole names count (Some v) same fits = fits_one names count v same fits

pub are_of_plan : (names : List (List ℕ)) (count : ℕ) (audits : List AuditAt) (judged : Judged) → names ≡ names_of audits → length audits ≡ count → FitsJudged count audits judged → AreOfPlan names judged
are_of_plan names count audits judged named many fits =
    let same : count ≡ length names = sym many ∙ sym (ap length named ∙ length-map audits (λ (audit : AuditAt). audit.name)) in
    record {
      whole = fits_whole names count judged.whole same fits.whole;
      roots = record { few = fits.roots.few; roots = All-weaker (FitsRoot count audits) (IsOfRoot names) (λ v fit. fits_root names count audits v same fit) judged.roots fits.roots.roots };
    }
