-- How a search ends at a broken ring.
use Rattle.std.proofs.Common.{ℕ, Bool, true, false, List, Option, Some, None, refl}
use Rattle.std.specs.Prelude.{Result, Ok, Err, if◌then◌else◌}
use Rattle.kc_memory.specs.Image.{Image}
use Rattle.kc_found.specs.declared.found.WalkStop.{WalkStop}
use Rattle.kc_found.specs.declared.found.WalkStop.TheVariants as ends
use Rattle.kc_found.specs.Violations.{Violation}
use Rattle.kc_found.specs.Walks.{IsWalk, WalksAs}
use Rattle.kc_which.specs.Ends.{is_same, through, told}

by_test : {R : Type 0} (ring : R) (w : Violation) (same : Bool) →
    IsWalk (λ (r : Option R). r) (if same then Ok (Some ring) else Err w) (if same then Ok (Some ring) else Err (ends.Broken w))
by_test ring w true = refl
by_test ring w false = refl

pub ended : {R : Type 0} (image : Option Image) (walk : Image → Result (List ℕ) Violation) (go : Image → List ℕ → Result (Option R) Violation) (v : Violation) (ring : R) (stop : WalkStop)
    → WalksAs (λ (w : List ℕ). w) walk image (Err stop) → WalksAs (λ (r : Option R). r) (λ i. through v ring (walk i) (go i)) image (told v ring stop)
ended None walk go v ring stop e = tt
ended (Some i) walk go v ring (ends.Broken w) e = rw e (by_test ring w (is_same v w))
ended (Some i) walk go v ring ends.Fault e = tt
ended (Some i) walk go v ring ends.NoMemory e = tt
