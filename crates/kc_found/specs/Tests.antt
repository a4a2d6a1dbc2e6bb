-- What the answers of tests say.
use Rattle.std.specs.Prelude.{◌≡◌, ℕ, ◌≤◌, Bool, true, false, List, Option, Some, None, Result, Ok, Err, ⊤}
use Rattle.kc_outside.specs.Counts.{Rose}
use Rattle.kc_found.specs.declared.found.WalkStop.{WalkStop}
use Rattle.kc_found.specs.declared.found.WalkStop.TheVariants as ends
use Rattle.kc_found.specs.declared.test.TestStop.{TestStop}
use Rattle.kc_found.specs.declared.test.TestStop.TheVariants.{Unfit, Fault, NoMemory}

-- a test is true, or it is false and nothing fits further on
abbrev pub TellsAs : {A I : Type 0} → (I → Bool) → Option I → Result A TestStop → Type 0
TellsAs test None r = ⊤
TellsAs test (Some i) (Ok x) = test i ≡ true
TellsAs test (Some i) (Err Unfit) = test i ≡ false
TellsAs test (Some i) (Err Fault) = ⊤
TellsAs test (Some i) (Err NoMemory) = ⊤

-- what is taken after words is this, or one of them isn't met
abbrev pub MeetsAs : {A I : Type 0} → (I → Option (List ℕ)) → List ℕ → Option I → Result A TestStop → Type 0
MeetsAs met after None r = ⊤
MeetsAs met after (Some i) (Ok x) = met i ≡ Some after
MeetsAs met after (Some i) (Err Unfit) = met i ≡ None
MeetsAs met after (Some i) (Err Fault) = ⊤
MeetsAs met after (Some i) (Err NoMemory) = ⊤

-- the count of failures rose where reading failed, and else it is as it was
abbrev pub CountsTestFaults : {A : Type 0} → Result A TestStop → ℕ → ℕ → Type 0
CountsTestFaults (Ok x) before after = after ≡ before
CountsTestFaults (Err Unfit) before after = after ≡ before
CountsTestFaults (Err Fault) before after = (before ≤ after) × Rose before after
CountsTestFaults (Err NoMemory) before after = after ≡ before

-- what a stop of a walk means to a test
abbrev pub test_stop_of : WalkStop → TestStop
test_stop_of (ends.Broken f) = Unfit
test_stop_of ends.Fault = Fault
test_stop_of ends.NoMemory = NoMemory
