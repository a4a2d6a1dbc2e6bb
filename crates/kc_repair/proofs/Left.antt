-- What is left to be tried where some words are changed.
use Rattle.std.proofs.Common.{◌≡◌, ℕ, List, Option, Some, None, Result, Ok, Err, sym, ap, ◌∙◌, subst}
use Rattle.std.specs.Prelude.{IfErr, IfOk, IfSome}
use Rattle.std.specs.List.{filter}
use Rattle.std.specs.Result.{result_unwrap_or}
use Rattle.kc_word.specs.declared.memory.NoMemory.{NoMemory as NoRoom}
use Rattle.kc_memory.specs.Image.{Image}
use Rattle.kc_found.specs.Failures.{CountsFailures}
use Rattle.kc_found.specs.declared.failed.ReadFailed.{ReadFailed}
use Rattle.kc_found.specs.declared.failed.ReadFailed.TheVariants.{Fault, NoMemory}
use Rattle.kc_found.specs.Violations.{Violation}
use Rattle.kc_kinds.specs.declared.kind.Kind.{Kind}
use Rattle.kc_plan.specs.Planned.{AuditAt}
use Rattle.kc_plan.specs.Roots.{Root}
use Rattle.kc_repair.specs.declared.suspect.suspect.Suspect.{Suspect}
use Rattle.kc_repair.specs.declared.outcome.Repair.{Repair}
use Rattle.kc_repair.specs.Suspect.Suspects.{suspects}
use Rattle.kc_repair.specs.declared.first.Breaking.{Breaking}
use Rattle.kc_repair.specs.declared.seeking.Suspected.{Suspected}
use Rattle.kc_repair.specs.Repairs.{IsSuspected, IsSuspectedLeft, WalkInside, any_leads, is_apart, repair_left, repair_with, with_words}
use Rattle.kc_repair.proofs.Determined.{walk-inside}

-- those that are left to be tried
pub kept-left : (image : Option Image) (audits : List AuditAt) (seen : Suspected) (r : Result Suspected ReadFailed) (earlier : List Suspect) (kind : Kind) (v : Violation)
    → IfOk r (λ left. (left.suspects ≡ filter (is_apart earlier) seen.suspects) × (left.breaking ≡ any_leads seen.breaking)) → IfSome image (λ i. IsSuspected (with_words i earlier) audits kind v seen)
    → IfOk r (λ left. IfSome image (λ i. IsSuspectedLeft i audits earlier kind v left))
kept-left image audits seen (Err stop) earlier kind v is are = tt
kept-left None audits seen (Ok left) earlier kind v is are = tt
kept-left (Some i) audits seen (Ok left) earlier kind v is are = (is.0 ∙ ap (filter (is_apart earlier)) are.0, is.1 ∙ ap any_leads are.1)

-- what was asked failed at no reading, and nor does what is answered
pub left-quiet : (count : ℕ) (asked : Result (Result Suspected ReadFailed) NoRoom) (seen : Suspected) (r : Result Suspected ReadFailed) (old new : ℕ)
    → result_unwrap_or asked (Err NoMemory) ≡ Ok seen → IfOk asked (λ x. CountsFailures x old new × IfOk x (λ (s : Suspected). WalkInside count s.breaking.walk))
    → IfErr r (λ stop. stop ≡ NoMemory) → CountsFailures r old new
left-quiet count (Err none) seen r old new is leaves cause = absurd (let never : ⊥ = cc in never)
left-quiet count (Ok asked) seen r old new is leaves cause = quiet r cause
  where
    same : asked ≡ Ok seen
    same = is

    both : (new ≡ old) × WalkInside count seen.breaking.walk
    both = rw same at leaves

    stays : new ≡ old
    stays = both.0

    quiet : (r : Result Suspected ReadFailed) → IfErr r (λ stop. stop ≡ NoMemory) → CountsFailures r old new
    quiet (Ok kept) cause = stays
    quiet (Err NoMemory) cause = stays
    quiet (Err Fault) cause = absurd (let never : ⊥ = cc in never)

-- the walk of what is left is of a kind of the kernel's
pub left-inside : (count : ℕ) (asked : Result (Result Suspected ReadFailed) NoRoom) (seen : Suspected) (earlier : List Suspect) (r : Result Suspected ReadFailed) (old new : ℕ)
    → result_unwrap_or asked (Err NoMemory) ≡ Ok seen → IfOk asked (λ x. CountsFailures x old new × IfOk x (λ (s : Suspected). WalkInside count s.breaking.walk))
    → IfOk r (λ left. (left.suspects ≡ filter (is_apart earlier) seen.suspects) × (left.breaking ≡ any_leads seen.breaking)) → IfOk r (λ left. WalkInside count left.breaking.walk)
left-inside count asked seen earlier (Err stop) old new is leaves left = tt
left-inside count asked seen earlier (Ok left) old new is leaves are =
    subst (λ (b : Breaking). WalkInside count b.walk) (sym are.1) (walk-inside count asked seen old new is leaves)

-- what repairs a violation that is left
pub repairs-left : (image image' : Option Image) (audits : List AuditAt) (root : Root) (earlier : List Suspect) (kind : Kind) (v : Violation) (asked : Result Suspected ReadFailed) (left : Suspected) (r : Result Repair ReadFailed)
    → image' ≡ image → asked ≡ Ok left → IfOk asked (λ kept. IfSome image (λ i. IsSuspectedLeft i audits earlier kind v kept))
    → IfOk r (λ x. IfSome image' (λ i. repair_with (with_words i earlier) audits root left.breaking left.suspects ≡ x))
    → IfOk r (λ x. IfSome image (λ i. x ≡ repair_left i audits root earlier kind v))
repairs-left image image' audits root earlier kind v asked left (Err stop) same is are exact = tt
repairs-left None image' audits root earlier kind v asked left (Ok x) same is are exact = tt
repairs-left (Some i) image' audits root earlier kind v asked left (Ok x) same is are exact =
    let kept : IsSuspectedLeft i audits earlier kind v left = rw is at are in
    sym (rw same at exact) ∙ ap (λ (l : List Suspect). repair_with (with_words i earlier) audits root left.breaking l) kept.0
    ∙ ap (λ (s : Breaking). repair_with (with_words i earlier) audits root s (filter (is_apart earlier) (suspects (with_words i earlier) kind v))) kept.1
