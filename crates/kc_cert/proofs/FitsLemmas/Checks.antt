-- The checks of an element, by what is counted of them.
use Rattle.std.proofs.Common.{◌≡◌, ℕ, List, [], ◌∷◌, Option, Some, None, refl, ap}
use Rattle.std.specs.Prelude.{Ok, Err, is_none}
use Rattle.kc_memory.specs.Image.{Image}
use Rattle.kc_found.specs.declared.found.WalkStop.TheVariants as ends
use Rattle.kc_found.specs.declared.verdict.AuditCount.{AuditCount}
use Rattle.kc_found.specs.Violations.{Violation}
use Rattle.kc_plan.specs.Events.{Event, Walk, Wrong, first_wrong}
use Rattle.kc_plan.specs.Planned.{AuditAt, CheckAt}
use Rattle.kc_plan.specs.Seen.{checks_seen, world}
use Rattle.kc_run.specs.Tally.{TalliesAs, added, tally}
use Rattle.kc_found.specs.declared.test.TestStop.TheVariants.{Unfit}
use Rattle.kc_found.specs.Tests.{TellsAs}
use Rattle.kc_cert.specs.Fits.Fits.{checks_hold}

-- what is counted, and the first violation
pub right_seen : (before after : List AuditCount) (es : List Event) → tally before es ≡ Ok after → first_wrong es ≡ None
right_seen before after [] e = refl
right_seen before after (Walk n size ∷ es) e = right_seen (added before n size) after es e
right_seen before after (Wrong v ∷ es) e = let none : ⊥ = cc in absurd none

wrong_seen : (before : List AuditCount) (v : Violation) (es : List Event) → tally before es ≡ Err v → first_wrong es ≡ Some v
wrong_seen before v [] e = let none : ⊥ = cc in absurd none
wrong_seen before v (Walk n size ∷ es) e = wrong_seen (added before n size) v es e
wrong_seen before v (Wrong w ∷ es) e = let same : w ≡ v = cc in ap Some same

abbrev pub of_checks : ℕ → ℕ → ℕ → List CheckAt → Image → List Event
of_checks n start element checks = λ i. checks_seen (world i) (record { audit = n; start = start }) checks element

-- the checks of an element hold, or the first one doesn't
pub checks_pass : {A B : Type 0} (image : Option Image) (n : ℕ) (a : AuditAt) (start element : ℕ) (u : A) (w : B) → ((counts : List AuditCount) → TalliesAs (of_checks n start element a.checks) counts counts image (Ok u)) →
    TellsAs (λ i. checks_hold i n a start element) image (Ok w)
checks_pass None n a start element u w e = tt
checks_pass (Some i) n a start element u w e = ap is_none (right_seen [] [] (of_checks n start element a.checks i) (e []))

pub checks_fail : (A B : Type 0) (image : Option Image) (n : ℕ) (a : AuditAt) (start element : ℕ) (v : Violation) → ((counts : List AuditCount) → TalliesAs {A = B} (of_checks n start element a.checks) counts counts image (Err (ends.Broken v))) →
    TellsAs {A = A} (λ i. checks_hold i n a start element) image (Err Unfit)
checks_fail A B None n a start element v e = tt
checks_fail A B (Some i) n a start element v e = ap is_none (wrong_seen [] v (of_checks n start element a.checks i) (e []))
