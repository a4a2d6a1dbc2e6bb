-- What it says that the entries of an xarray are listed.
use Rattle.std.specs.Prelude.{◌≡◌, ℕ, Bool, true, false, List, Option, Some, None, Result, Ok, Err, ⊤}
use Rattle.kc_found.specs.declared.test.TestStop.{TestStop}
use Rattle.kc_found.specs.declared.test.TestStop.TheVariants.{Unfit, Fault, NoMemory}

-- of this list a test is true, or it is false of each list
abbrev pub ListsAs : {I : Type 0} → (I → List ℕ → Bool) → Option I → Result (List ℕ) TestStop → Type 0
ListsAs test None r = ⊤
ListsAs test (Some i) (Ok ns) = test i ns ≡ true
ListsAs test (Some i) (Err Unfit) = (ns : List ℕ) → test i ns ≡ false
ListsAs test (Some i) (Err Fault) = ⊤
ListsAs test (Some i) (Err NoMemory) = ⊤

-- the one test is the other for each list, or it is false of each list
abbrev pub PassesAs : {A I : Type 0} → (I → List ℕ → Bool) → (I → List ℕ → Bool) → Option I → Result A TestStop → Type 0
PassesAs before after None r = ⊤
PassesAs before after (Some i) (Ok x) = (ns : List ℕ) → before i ns ≡ after i ns
PassesAs before after (Some i) (Err Unfit) = (ns : List ℕ) → before i ns ≡ false
PassesAs before after (Some i) (Err Fault) = ⊤
PassesAs before after (Some i) (Err NoMemory) = ⊤
