-- Whether another suspect repairs, where the memory is told or not.
use Rattle.std.proofs.Common.{◌≡◌, ℕ, ◌+◌, Bool, true, List, take, find, is_some, is_none, Option, Some, None, Result, Ok, Err, sym, ap, ◌∙◌}
use Rattle.std.specs.Prelude.{IfOk, IfSome}
use Rattle.kc_memory.specs.Image.{Image}
use Rattle.kc_found.specs.declared.failed.ReadFailed.{ReadFailed}
use Rattle.kc_found.specs.declared.verdict.Verdict.{Verdict}
use Rattle.kc_found.specs.Violations.{Violation}
use Rattle.kc_kinds.specs.declared.kind.Kind.{Kind}
use Rattle.kc_phys.specs.declared.patch.change.Change.{Change}
use Rattle.kc_phys.specs.Patch.Changed.{patched}
use Rattle.kc_plan.specs.Planned.{AuditAt}
use Rattle.kc_plan.specs.Roots.{Root, broken_in}
use Rattle.kc_repair.specs.declared.suspect.suspect.Suspect.{Suspect}
use Rattle.kc_repair.specs.declared.first.FirstWalk.{FirstWalk}
use Rattle.kc_repair.specs.declared.outcome.Breach.{Breach}
use Rattle.kc_repair.specs.declared.outcome.Repair.TheVariants.{Stands}
use Rattle.kc_repair.specs.declared.others.Stand.{Stand}
use Rattle.kc_repair.specs.declared.seeking.Suspected.{Suspected}
use Rattle.kc_repair.specs.Others.{is_change, next_ones, stand_after, stand_by, stand_of, up_to, up_to_found}
use Rattle.kc_repair.specs.Repairs.{IsSuspected, breach_of, change_of, judged, judged_with, most, repair_by, repair_of, repairs, walk_of}
use Rattle.kc_repair.specs.Suspect.Suspects.{suspects}
use Rattle.kc_repair.proofs.Ups.{Alike, found-up_to, of-front, same-parts}

-- suspects of one change are judged alike
one-change : (s t : Suspect) → is_change s t ≡ true → change_of t ≡ change_of s
one-change s t is =
    let parts = same-parts s t is in
    ap (λ (off : ℕ). record { off = off; value = t.value }) parts.0 ∙ ap (λ (value : ℕ). record { off = s.off; value = value }) parts.1

pub judged-alike : (image : Image) (audits : List AuditAt) (root : Root) (walk : Option FirstWalk) → Alike (repairs (judged_with image audits root walk None))
judged-alike image audits root walk s t is =
    ap (λ (c : Change). is_none (broken_in (judged (record { physical = patched c image.physical; paging = image.paging }) audits root walk None))) (one-change s t is)

-- what is answered after the first
stand-here : (passes : Suspect → Bool) → Alike passes → (xs others : List Suspect) (first : Suspect) (tried count : ℕ) (second : Option Suspect)
    → tried ≡ up_to (is_change first) xs → others ≡ next_ones tried xs → count ≡ up_to_found second others → find passes others ≡ second → find passes (take most xs) ≡ Some first
    → record { also = is_some second; tried = tried + count } ≡ stand_by passes xs
stand-here passes alike xs others first tried count second up after counted found is =
    let place : tried ≡ up_to passes xs = up ∙ found-up_to passes alike xs (Some first) (of-front passes most xs first is) in
    let number : count ≡ up_to passes others = counted ∙ found-up_to passes alike others second found in
    let told : record { also = is_some second; tried = tried + count } ≡ stand_after passes tried others
    = ap (λ (o : Option Suspect). record { also = is_some o; tried = tried + count }) (sym found) ∙ ap (λ (k : ℕ). record { also = is_some (find passes others); tried = tried + k }) number in
    told ∙ ap (stand_after passes tried) after ∙ ap (λ (n : ℕ). stand_after passes n (next_ones n xs)) place

pub others-tried : (image : Option Image) (audits : List AuditAt) (root : Root) (walk : Option FirstWalk) (xs others : List Suspect) (first : Suspect) (tried count : ℕ) (also : Bool) (r : Result (Option Suspect) ReadFailed) (second : Option Suspect)
    → tried ≡ up_to (is_change first) xs → others ≡ next_ones tried xs → count ≡ up_to_found second others → also ≡ is_some second → r ≡ Ok second
    → IfOk r (λ o. IfSome image (λ m. find (repairs (judged_with m audits root walk None)) others ≡ o))
    → IfSome image (λ m. find (repairs (judged_with m audits root walk None)) (take most xs) ≡ Some first → record { also = also; tried = tried + count } ≡ stand_by (repairs (judged_with m audits root walk None)) xs)
others-tried None audits root walk xs others first tried count also r second up after counted more is exact = tt
others-tried (Some m) audits root walk xs others first tried count also r second up after counted more is exact =
    let found : find (repairs (judged_with m audits root walk None)) others ≡ second = rw is at exact in
    λ first_is. ap (λ (b : Bool). record { also = b; tried = tried + count }) more ∙ stand-here (repairs (judged_with m audits root walk None)) (judged-alike m audits root walk) xs others first tried count second up after counted found first_is

-- the first that repairs is the answer's
pub first-of : (lead : Suspect → Verdict) (breach : Breach) (xs : List Suspect) (o : Option Suspect) (s : Suspect) → repair_by lead breach xs o ≡ Stands s → o ≡ Some s
first-of lead breach xs None s is = let never : ⊥ = cc in absurd never
first-of lead breach xs (Some t) s is = let same : t ≡ s = cc in ap (λ (u : Suspect). Some u) same

-- of the words that a violation suspects
pub others-seen : (image after : Option Image) (audits : List AuditAt) (root : Root) (kind : Kind) (v : Violation) (seen : Suspected) (first : Suspect) (r : Result Stand ReadFailed)
    → after ≡ image → IfSome image (λ m. IsSuspected m audits kind v seen)
    → IfOk r (λ stand. IfSome after (λ m. find (repairs (judged_with m audits root seen.breaking.walk None)) (take most seen.suspects) ≡ Some first → stand ≡ stand_by (repairs (judged_with m audits root seen.breaking.walk None)) seen.suspects))
    → IfOk r (λ stand. IfSome image (λ m. repair_of m audits root kind v ≡ Stands first → stand ≡ stand_of m audits root kind v))
others-seen image after audits root kind v seen first (Err stop) same are exact = tt
others-seen None after audits root kind v seen first (Ok stand) same are exact = tt
others-seen (Some m) after audits root kind v seen first (Ok stand) same are exact =
    λ is. (rw (are.0, are.1) at (rw same at exact)) (first-of (judged_with m audits root (walk_of m audits kind v) (Some (breach_of v))) (breach_of v) (suspects m kind v) (find (repairs (judged_with m audits root (walk_of m audits kind v) None)) (take most (suspects m kind v))) first is)
