-- The answer of `check`, step by step.
use Rattle.std.proofs.Common.{◌≡◌, ℕ, nat_eq, Bool, true, false, if◌then◌else◌, List, map, Option, Some, None, IfSome, Result, Ok, Err, inl, inr, refl, sym, ap}
use Rattle.std.proofs.lemmas.Bool.{eqb-true}
use Rattle.kc_outside.specs.declared.store.Slot.{Slot}
use Rattle.kc_outside.specs.declared.store.Slot.TheVariants as slot
use Rattle.kc_memory.specs.Image.{Image}
use Rattle.kc_found.specs.declared.verdict.RootVerdict.{RootVerdict}
use Rattle.kc_found.specs.declared.verdict.Verdict.{Verdict}
use Rattle.kc_plan.specs.Planned.{AuditAt}
use Rattle.kc_plan.specs.Roots.{root_verdicts}
use Rattle.kc_plan.specs.Verdicts.{verdict, verdict_places}
use Rattle.kc_command.specs.declared.halt.Halt.{Halt}
use Rattle.kc_command.specs.declared.halt.Halt.TheVariants.{Refused, Store, Memory}
use Rattle.kc_command.specs.Made.{gives}
use Rattle.kc_command.specs.declared.ends.answer.Answer.{Answer}
use Rattle.kc_command.specs.Ends.Answers.{Prints, PrintsOfBytes, StayBehind}
use Rattle.kc_app.specs.Answer.{Writes, WritesRoots, WritesText}
use Rattle.kc_audit.specs.Audits.{names_of}
use Rattle.kc_app.specs.Check.{Audited, Files, RefusesLate, audited_shown, check_asked, root_seen, roots_shown, verdict_said, verdict_shown}
use Rattle.kc_app.specs.Shown.{Shown, shown_status, shown_text, shown_written}
use Rattle.kc_app.proofs.Ends.{shown_by}

-- a late refusal leaves the files after it unopened
pub late_stays : (most : ℕ) (A B : Type 0) (f : Files) (halt : Halt) (r : Result B Halt) (old before new : Slot → Option (List ℕ)) → r ≡ Err halt → before slot.Plan ≡ old slot.Plan
    → RefusesLate {A = A} (Err halt) before new → StayBehind (check_asked most f).named r old new
late_stays most A B f (Refused refusal) r old before new is kept (inl late) = rw (is, late.0) (rw kept at late.1, tt)
late_stays most A B f (Refused refusal) r old before new is kept (inr late) = rw (is, late) tt
late_stays most A B f Store r old before new is kept late = rw is tt
late_stays most A B f Memory r old before new is kept late = rw is tt

-- what is written of what is shown is what it prints
prints_shown : (shown : Shown) (r : Result Answer Halt) → WritesText (shown_text shown) (shown_status shown) r → Prints shown_written (gives shown) r
prints_shown shown (Ok answer) writes = ap (λ w. Some w) (sym writes)
prints_shown shown (Err (Refused refusal)) writes = absurd writes
prints_shown shown (Err Store) writes = absurd writes
prints_shown shown (Err Memory) writes = tt

-- of a plan with one verdict on all its audits
pub all_prints : (content : Option (List ℕ)) (image : List ℕ → Image) (audits : List AuditAt) (names : List (List ℕ)) (found : Verdict) (r : Result Answer Halt)
    → names ≡ names_of audits → IfSome content (λ bytes. verdict (image bytes) audits ≡ found) → Writes (verdict_said names found) (verdict_places found) r
    → PrintsOfBytes shown_written (λ bytes. gives (verdict_shown (image bytes) (names_of audits) (verdict (image bytes) audits))) content r
all_prints None image audits names found r named is writes = tt
all_prints (Some bytes) image audits names found r named is writes = rw is (prints_shown (verdict_shown (image bytes) (names_of audits) found) r (rw named at writes))

-- and of one with a verdict on each root audit
pub each_prints : (content : Option (List ℕ)) (image : List ℕ → Image) (audits : List AuditAt) (names : List (List ℕ)) (found : List RootVerdict) (r : Result Answer Halt)
    → names ≡ names_of audits → IfSome content (λ bytes. root_verdicts (image bytes) audits ≡ found) → WritesRoots (map (root_seen names) found) r
    → PrintsOfBytes shown_written (λ bytes. gives (roots_shown (image bytes) (names_of audits) (root_verdicts (image bytes) audits))) content r
each_prints None image audits names found r named is writes = tt
each_prints (Some bytes) image audits names found r named is writes = rw is (prints_shown (roots_shown (image bytes) (names_of audits) found) r (rw named at writes))

-- what is shown of what is audited, where its version is known
pub by_version : (content : Option (List ℕ)) (all : List ℕ → Audited) (each : Bool) (r : Result Answer Halt)
    → ((bytes : List ℕ) → nat_eq (all bytes).version 2 ≡ each) → PrintsOfBytes shown_written (λ bytes. gives (shown_by each (all bytes))) content r
    → PrintsOfBytes shown_written (λ bytes. gives (audited_shown (all bytes))) content r
by_version None all each r is prints = tt
by_version (Some bytes) all each r is prints = rw (is bytes) prints

-- another version than 2
pub not_two : (version : ℕ) → (version ≡ 2 → ⊥) → nat_eq version 2 ≡ false
not_two version other = by_test (nat_eq version 2) refl
  where
    by_test : (b : Bool) → nat_eq version 2 ≡ b → nat_eq version 2 ≡ false
    by_test true is = absurd (other (eqb-true version 2 is))
    by_test false is = is
