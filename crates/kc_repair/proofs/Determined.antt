-- The function's answer on suspects is the one that is meant.
use denote.Enum.Bare.{sameb, same_true, same_false}
use Rattle.std.proofs.Common.{◌≡◌, ℕ, nat_eq, Bool, true, false, ◌&&◌, List, [], ◌∷◌, take, Option, Some, None, Result, Ok, Err, ◌⊎◌, inl, inr, refl, sym, ap, ◌∙◌, subst, option_map}
use Rattle.std.specs.Prelude.{find, IfOk, IfSome}
use Rattle.std.specs.Result.{result_unwrap_or}
use Rattle.std.proofs.lemmas.Bool.{eqb-true, eq-eqb}
use Rattle.kc_word.specs.declared.memory.NoMemory.{NoMemory as NoRoom}
use Rattle.kc_word.specs.declared.plain.PageCfg.{PageCfg}
use Rattle.kc_word.specs.declared.plain.Segment.{Segment}
use Rattle.kc_word.specs.declared.plain.Tail.{Tail}
use Rattle.kc_phys.specs.Stored.{stored}
use Rattle.kc_mem.specs.Paged.{with_paging}
use Rattle.kc_question.specs.Memory.{image_of}
use Rattle.kc_memory.specs.contracts.rule.Rule.{the_type}
use Rattle.kc_memory.specs.Image.{Image}
use Rattle.kc_found.specs.declared.verdict.Verdict.{Verdict}
use Rattle.kc_found.specs.declared.verdict.Verdict.TheVariants.{Clean, Broken}
use Rattle.kc_found.specs.Violations.{Violation}
use Rattle.kc_kinds.specs.declared.kind.Kind.{Kind}
use Rattle.kc_plan.specs.Planned.{AuditAt}
use Rattle.kc_plan.specs.Roots.{Root}
use Rattle.kc_found.specs.Failures.{CountsFailures}
use Rattle.kc_found.specs.declared.failed.ReadFailed.{ReadFailed}
use Rattle.kc_found.specs.declared.failed.ReadFailed.TheVariants.{NoMemory}
use Rattle.kc_repair.specs.declared.suspect.suspect.Suspect.{Suspect}
use Rattle.kc_repair.specs.Suspect.Suspects.{suspects}
use Rattle.kc_repair.specs.declared.first.Breaking.{Breaking}
use Rattle.kc_repair.specs.declared.seeking.Suspected.{Suspected}
use Rattle.kc_repair.specs.declared.outcome.Breach.{Breach}
use Rattle.kc_repair.specs.declared.outcome.Next.{Next}
use Rattle.kc_repair.specs.declared.outcome.Repair.{Repair}
use Rattle.kc_repair.specs.Repairs.{IsElsewhere, IsFirstNext, IsNext, IsRepair, IsRepairBy, IsSuspected, WalkInside, first_next, is_same, judged_with, most, next_by, next_of, or_later, repair, repair_by, repair_of, repair_with, repairs}

-- the test of a violation that is the same
both : (a b : Bool) → a && b ≡ true → (a ≡ true) × (b ≡ true)
both true true e = (refl, refl)
both true false e = absurd (let none : ⊥ = cc in none)
both false b e = absurd (let none : ⊥ = cc in none)

not_both : (a b : Bool) → a && b ≡ false → (a ≡ false) ⊎ (b ≡ false)
not_both true b e = inr e
not_both false b e = inl refl

same_yes : (found : Breach) (v : Violation) → is_same found v ≡ true → (v.rule ≡ found.rule) × (v.at ≡ found.at)
same_yes found v e =
    let parts = both (sameb the_type v.rule found.rule) (nat_eq v.at found.at) e in
    (same_true the_type tt v.rule found.rule parts.0, eqb-true v.at found.at parts.1)

no_number : (a b : ℕ) → nat_eq a b ≡ false → a ≡ b → ⊥
no_number a b e same = let yes : nat_eq a b ≡ true = eq-eqb a b same in let none : ⊥ = cc in none

same_no : (found : Breach) (v : Violation) → is_same found v ≡ false → IsElsewhere found (Broken v)
same_no found v e same = by_part (not_both (sameb the_type v.rule found.rule) (nat_eq v.at found.at) e)
  where
    by_part : (sameb the_type v.rule found.rule ≡ false) ⊎ (nat_eq v.at found.at ≡ false) → ⊥
    by_part (inl rule) = same_false the_type v.rule found.rule rule same.0
    by_part (inr at) = no_number v.at found.at at same.1

-- what the first leads to that leads elsewhere
gives_here : (found : Breach) (s : Suspect) (v : Violation) (P : Option Next → Type 0) (rest : Option Next) (same : Bool) → is_same found v ≡ same → P rest
    → (IsElsewhere found (Broken v) × IsNext s (Broken v) (or_later (next_by same s v) rest)) ⊎ ((IsElsewhere found (Broken v) → ⊥) × P (or_later (next_by same s v) rest))
gives_here found s v P rest true e holds = inr (λ other. other (same_yes found v e), holds)
gives_here found s v P rest false e holds = inl (same_no found v e, refl)

gives_at : (found : Breach) (s : Suspect) (verdict : Verdict) (P : Option Next → Type 0) (rest : Option Next) → P rest
    → (IsElsewhere found verdict × IsNext s verdict (or_later (next_of found s verdict) rest)) ⊎ ((IsElsewhere found verdict → ⊥) × P (or_later (next_of found s verdict) rest))
gives_at found s (Clean counts) P rest holds = inr (λ none. none, holds)
gives_at found s (Broken v) P rest holds = gives_here found s v P rest (is_same found v) refl holds

gives_next : (judge : Suspect → Verdict) (found : Breach) (suspected : List Suspect) → IsFirstNext judge found suspected (first_next judge found suspected)
gives_next judge found [] = refl
gives_next judge found (s ∷ later) = gives_at found s (judge s) (IsFirstNext judge found later) (first_next judge found later) (gives_next judge found later)

-- by the first that repairs
gives_by : (judge lead : Suspect → Verdict) (found : Breach) (suspected : List Suspect) (first : Option Suspect) → find (repairs judge) (take most suspected) ≡ first
    → IsRepair judge lead found suspected (repair_by lead found suspected first)
gives_by judge lead found suspected (Some s) is = is
gives_by judge lead found suspected None is = record { none = is; number = refl; beyond = refl; goes_on = gives_next lead found (take most suspected) }

pub gives : (judge lead : Suspect → Verdict) (found : Breach) (suspected : List Suspect) → IsRepair judge lead found suspected (repair judge lead found suspected)
gives judge lead found suspected = gives_by judge lead found suspected (find (repairs judge) (take most suspected)) refl

-- the memory of a dump with some bytes
pub imaged : (segments segments' : List Segment) (tail tail' : Tail) (content content' : Option (List ℕ)) (paging : PageCfg) → segments ≡ segments' → tail ≡ tail' → content ≡ content'
    → with_paging paging (stored segments tail content) ≡ option_map (λ bytes. image_of bytes segments' tail' paging) content'
imaged segments segments' tail tail' content content' paging e f h =
    ap (λ l. with_paging paging (stored l tail content)) e ∙ ap (λ t. with_paging paging (stored segments' t content)) f ∙ ap (λ b. with_paging paging (stored segments' tail' b)) h ∙ at content'
  where
    at : (bytes : Option (List ℕ)) → with_paging paging (stored segments' tail' bytes) ≡ option_map (λ b. image_of b segments' tail' paging) bytes
    at None = refl
    at (Some bytes) = refl

-- so what the code answers is that
pub given : (image : Option Image) (content : Option (List ℕ)) (of : List ℕ → Image) (audits : List AuditAt) (root : Root) (breaking : Breaking) (suspected : List Suspect) (r : Result Repair ReadFailed)
    → image ≡ option_map of content → IfOk r (λ x. IfSome image (λ m. repair_with m audits root breaking suspected ≡ x))
    → IfOk r (λ x. IfSome content (λ bytes. IsRepairBy (of bytes) audits root breaking suspected x))
given image content of audits root breaking suspected (Err stop) same exact = tt
given image None of audits root breaking suspected (Ok x) same exact = tt
given image (Some bytes) of audits root breaking suspected (Ok x) same exact =
    let is : repair_with (of bytes) audits root breaking suspected ≡ x = rw same at exact in
    subst (λ y. IsRepairBy (of bytes) audits root breaking suspected y) is
    (gives (judged_with (of bytes) audits root breaking.walk None) (judged_with (of bytes) audits root breaking.walk breaking.only) breaking.found suspected)

-- what was answered, where the question could be asked
pub answered : {A : Type 0} (image : Option Image) (asked : Result (Result A ReadFailed) NoRoom) (a : A) (Says : Image → A → Type 0)
    → result_unwrap_or asked (Err NoMemory) ≡ Ok a → IfOk asked (λ r. IfSome image (λ i. IfOk r (Says i))) → IfSome image (λ i. Says i a)
answered image (Ok r) a Says is says = let same : r ≡ Ok a = is in rw same at says
answered image (Err none) a Says is says = absurd (let never : ⊥ = cc in never)

-- and the walk of what was answered is of a kind of the kernel's
pub walk-inside : (count : ℕ) (asked : Result (Result Suspected ReadFailed) NoRoom) (seen : Suspected) (old new : ℕ)
    → result_unwrap_or asked (Err NoMemory) ≡ Ok seen → IfOk asked (λ x. CountsFailures x old new × IfOk x (λ (s : Suspected). WalkInside count s.breaking.walk)) → WalkInside count seen.breaking.walk
walk-inside count (Ok asked) seen old new is leaves =
    let same : asked ≡ Ok seen = is in
    let both : CountsFailures (Ok seen) old new × WalkInside count seen.breaking.walk = rw same at leaves in
    both.1
walk-inside count (Err none) seen old new is leaves = absurd (let never : ⊥ = cc in never)

-- that of what is suspected of a violation
pub repairs-suspected : (image image' : Option Image) (audits : List AuditAt) (root : Root) (kind : Kind) (v : Violation) (seen : Suspected) (r : Result Repair ReadFailed)
    → image' ≡ image → IfSome image (λ i. IsSuspected i audits kind v seen) → IfOk r (λ x. IfSome image' (λ i. repair_with i audits root seen.breaking seen.suspects ≡ x))
    → IfOk r (λ x. IfSome image (λ i. x ≡ repair_of i audits root kind v))
repairs-suspected image image' audits root kind v seen (Err stop) same are exact = tt
repairs-suspected None image' audits root kind v seen (Ok x) same are exact = tt
repairs-suspected (Some i) image' audits root kind v seen (Ok x) same are exact =
    sym (rw same at exact) ∙ ap (λ (l : List Suspect). repair_with i audits root seen.breaking l) are.0
    ∙ ap (λ (s : Breaking). repair_with i audits root s (suspects i kind v)) are.1
