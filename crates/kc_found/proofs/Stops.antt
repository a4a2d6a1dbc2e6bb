-- Sites that stop after tests that passed.
use Rattle.std.proofs.Common.{◌≡◌, ℕ, Bool, true, false, List, ◌++◌, Option, None, Some}
use Rattle.std.specs.Prelude.{Err, IfSome}
use Rattle.kc_found.specs.declared.found.WalkStop.{WalkStop}
use Rattle.kc_found.specs.declared.found.WalkStop.TheVariants as ends
use Rattle.kc_found.specs.Trials.{Trial, passed, broken_if}
use Rattle.kc_found.specs.Violations.{Violation}
use Rattle.kc_found.specs.Walks.{WalksAs}
use Rattle.kc_found.proofs.Passed.{passed_stops}

-- a test that passed
pub stops_after : {A C I : Type 0} (v : A → List ℕ) (w : C → List ℕ) (image : Option I) (taken : List ℕ) (b : Bool) (f : Violation) (ts : I → List (Trial ℕ)) (stop : WalkStop) → b ≡ false →
    WalksAs v (λ i. passed taken (ts i)) image (Err stop) → WalksAs w (λ i. passed taken (broken_if b f ++ ts i)) image (Err stop)
stops_after v w None taken b f ts stop is e = tt
stops_after v w (Some i) taken false f ts (ends.Broken g) is e = e
stops_after v w (Some i) taken false f ts ends.Fault is e = tt
stops_after v w (Some i) taken false f ts ends.NoMemory is e = tt
stops_after v w (Some i) taken true f ts stop is e = absurd (cc)

-- with further trials after it
pub stops_before : {A C I : Type 0} (v : A → List ℕ) (w : C → List ℕ) (image : Option I) (taken : List ℕ) (ts us : I → List (Trial ℕ)) (stop : WalkStop) →
    WalksAs v (λ i. passed taken (ts i)) image (Err stop) → WalksAs w (λ i. passed taken (ts i ++ us i)) image (Err stop)
stops_before v w None taken ts us stop e = tt
stops_before v w (Some i) taken ts us (ends.Broken f) e = passed_stops taken (ts i) (us i) f e
stops_before v w (Some i) taken ts us ends.Fault e = tt
stops_before v w (Some i) taken ts us ends.NoMemory e = tt

pub if_some : {I : Type 0} (P Q : I → Type 0) (image : Option I) → ((i : I) → P i → Q i) → IfSome image P → IfSome image Q
if_some P Q None go h = tt
if_some P Q (Some i) go h = go i h
