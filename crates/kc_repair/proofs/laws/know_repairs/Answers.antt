use Rattle.std.specs.List.{filter}
use Rattle.kc_memory.specs.Image.{Image}
use Rattle.kc_plan.specs.Planned.{AuditAt}
use Rattle.kc_plan.specs.Roots.{Root}
use Rattle.std.specs.Prelude.{List, None}
use Rattle.kc_repair.specs.declared.first.Breaking.{Breaking}
use Rattle.kc_repair.specs.declared.suspect.suspect.Suspect.{Suspect}
use Rattle.kc_repair.specs.Laws.{IsLeft}
use Rattle.kc_repair.specs.Suspect.Laws.{IsSuspect}
use Rattle.kc_repair.specs.Suspect.Suspects.{suspects}
use Rattle.kc_repair.specs.Repairs.{IsRepairBy, any_leads, breach_of, breaking_of, is_apart, judged_with, repair_left, repair_of, repair_with, walk_of, with_words}
use Rattle.kc_repair.proofs.Alone.{elements-counted, others-stand}
use Rattle.kc_repair.proofs.Changing.{all-kept, with-one_more}
use Rattle.kc_repair.proofs.Determined.{gives}
use Rattle.kc_repair.proofs.Standing.{nexts_of_root, stands_as}
use Rattle.kc_repair.proofs.Told.{all_told}
use Rattle.kc_repair.proofs.Unchanged.{left-stand_in_file}
use Rattle.kc_repair.proofs.laws.know_repairs.Goals as goal

given : (image : Image) (audits : List AuditAt) (root : Root) (breaking : Breaking) (xs : List Suspect) → IsRepairBy image audits root breaking xs (repair_with image audits root breaking xs)
given image audits root breaking xs = gives (judged_with image audits root breaking.walk None) (judged_with image audits root breaking.walk breaking.only) breaking.found xs

pub returns : goal.returns
returns c = record {
  stand = λ image audits root kind v.
      stands_as c.know_verdicts.ensures.roots image audits root (breaking_of image audits kind v) (suspects image kind v) (repair_of image audits root kind v)
      (given image audits root (breaking_of image audits kind v) (suspects image kind v));
  exact = λ image audits root kind v. given image audits root (breaking_of image audits kind v) (suspects image kind v);
  nexts = λ image audits root kind v tried more n is. nexts_of_root image audits root (breach_of v) (walk_of image audits kind v) (suspects image kind v) tried more n is;
  left = λ image audits root earlier kind v.
      stands_as c.know_verdicts.ensures.roots (with_words image earlier) audits root (any_leads (breaking_of (with_words image earlier) audits kind v)) (filter (is_apart earlier) (suspects (with_words image earlier) kind v)) (repair_left image audits root earlier kind v)
      (given (with_words image earlier) audits root (any_leads (breaking_of (with_words image earlier) audits kind v)) (filter (is_apart earlier) (suspects (with_words image earlier) kind v)));
  left_words = λ image audits root earlier kind v.
      let of : Breaking = any_leads (breaking_of (with_words image earlier) audits kind v) in
      all_told (IsLeft image earlier) (judged_with (with_words image earlier) audits root of.walk None) (judged_with (with_words image earlier) audits root of.walk of.only) of.found
      (filter (is_apart earlier) (suspects (with_words image earlier) kind v))
      (all-kept (IsSuspect (with_words image earlier)) (IsLeft image earlier) (is_apart earlier) (suspects (with_words image earlier) kind v) (λ x passes there. record { there = there; apart = passes })
      (c.know_suspects.ensures (with_words image earlier) kind v));
  in_file = left-stand_in_file c.know_places.ensures;
  others = others-stand c.know_verdicts.ensures.roots c.know_suspects.ensures;
  elements = elements-counted;
  one_more = with-one_more c.know_changes.ensures.last;
  words = λ image audits root kind v.
      let of : Breaking = breaking_of image audits kind v in
      all_told (IsSuspect image) (judged_with image audits root of.walk None) (judged_with image audits root of.walk of.only) of.found (suspects image kind v) (c.know_suspects.ensures image kind v);
}
