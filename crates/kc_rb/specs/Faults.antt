-- The rules that take no word: what breaks one of them, and how a walk ends by it.
use Rattle.std.specs.Prelude.{◌≡◌, ℕ, nat_eq, not, List, get_or, if◌then◌else◌, Option, Some, None, Result, Ok, Err, ⊤}
use Rattle.kc_memory.specs.declared.words.VWord.{VWord}
use Rattle.kc_memory.specs.declared.rule.Rule.TheVariants.{R5, R6}
use Rattle.kc_found.specs.declared.asked.Asked.{Asked}
use Rattle.kc_found.specs.declared.found.WalkStop.{WalkStop}
use Rattle.kc_found.specs.declared.found.WalkStop.TheVariants as ends
use Rattle.kc_found.specs.declared.trees.RbSpot.{RbSpot}
use Rattle.kc_found.specs.RbTrees.{differs}
use Rattle.kc_found.specs.Violations.{Violation, breaks}

-- a walk ends by the violation that there is, unless it is out of memory
abbrev pub StopIs : WalkStop → Option Violation → Type 0
StopIs (ends.Broken f) fault = fault ≡ Some f
StopIs ends.Fault fault = ⊥
StopIs ends.NoMemory fault = ⊤

-- a judgement finds no violation, or that one
abbrev pub FaultIs : {A : Type 0} → Result A WalkStop → Option Violation → Type 0
FaultIs (Ok x) fault = fault ≡ None
FaultIs (Err stop) fault = StopIs stop fault

abbrev pub or_else : Option ℕ → ℕ → ℕ
or_else None n = n
or_else (Some m) n = m

-- R5 of a null
abbrev pub null_fault : Asked → Option ℕ → RbSpot → Option Violation
null_fault asked first s = if differs first s.black then Some (breaks asked R5 s.link first) else None

-- R6 of a cached root
abbrev pub end_fault : Asked → Option VWord → List ℕ → Option Violation
end_fault asked None ns = None
end_fault asked (Some l) ns =
    if not (nat_eq l.value (get_or ns 0 0)) then Some (breaks asked R6 l (Some (get_or ns 0 0))) else None
