use Rattle.std.proofs.Common.{◌≡◌, ◌∙◌, List, [], ◌∷◌, Option, refl}
use Rattle.std.specs.Prelude.{find, map, option_and_then}
use Rattle.std.specs.List.{AllByRecursion}
use Rattle.kc_memory.specs.Image.{Image}
use Rattle.kc_memory.specs.Places.{AllStandIn}
use Rattle.kc_found.specs.declared.verdict.RootVerdict.{RootVerdict}
use Rattle.kc_found.specs.declared.verdict.Verdict.{Verdict}
use Rattle.kc_found.specs.declared.verdict.Verdict.TheVariants.{Clean, Broken}
use Rattle.kc_found.specs.Violations.{Violation}
use Rattle.kc_plan.specs.Planned.{AuditAt}
use Rattle.kc_plan.specs.Roots.{Root, broken_in, first_broken, or_later, root_verdict, root_verdicts}
use Rattle.kc_plan.specs.Seen.{roots}
use Rattle.kc_plan.specs.Verdicts.{verdict_places}
use Rattle.kc_run.specs.Laws.{RootVerdictsStand}
use Rattle.kc_cause.specs.Explained.{is_broken}
use Rattle.kc_cause.proofs.PrintedLaws.{explanations_hold}
use Rattle.kc_cause.proofs.laws.know_causes.Goals as goal

-- the words of each root audit
roots_stand : RootVerdictsStand → (image : Image) (audits : List AuditAt) (rs : List Root)
    → AllByRecursion (λ (r : RootVerdict). AllStandIn image (verdict_places r.verdict)) (map (root_verdict image audits) rs)
roots_stand law image audits [] = tt
roots_stand law image audits (r ∷ rs) = (law image audits r, roots_stand law image audits rs)

-- the first that is broken
first_step : (v : Verdict) (r : RootVerdict) (rs : List RootVerdict) (later : Option Violation) → r.verdict ≡ v → later ≡ option_and_then (λ (r : RootVerdict). broken_in r.verdict) (find is_broken rs)
    → or_later (broken_in r.verdict) later ≡ option_and_then (λ (r : RootVerdict). broken_in r.verdict) (find is_broken (r ∷ rs))
first_step (Clean counts) r rs later is same = rw is same
first_step (Broken v) r rs later is same = rw is refl

first_found : (rs : List RootVerdict) → first_broken rs ≡ option_and_then (λ (r : RootVerdict). broken_in r.verdict) (find is_broken rs)
first_found [] = refl
first_found (r ∷ rs) = first_step r.verdict r rs (first_broken rs) refl (first_found rs)

pub returns : goal.returns
returns c = record {
  stand = λ e. roots_stand c.know_verdicts.ensures.root_places e.image e.audits (roots 0 e.audits);
  first = λ image audits. (c.know_verdicts.ensures.first image audits).0 ∙ first_found (root_verdicts image audits);
  repairs = c.know_repairs.ensures.stand;
  repair_words = c.know_repairs.ensures.words;
  text = explanations_hold (record {
    exact = c.know_repairs.ensures.exact;
    nexts = c.know_repairs.ensures.nexts;
    stand = c.know_repairs.ensures.stand;
    words = c.know_repairs.ensures.words;
    suspects = c.know_suspects.ensures;
    left = c.know_repairs.ensures.left;
    left_words = c.know_repairs.ensures.left_words;
    in_file = c.know_repairs.ensures.in_file;
    one_more = c.know_repairs.ensures.one_more;
    others = c.know_repairs.ensures.others;
    elements = c.know_repairs.ensures.elements;
  });
}
