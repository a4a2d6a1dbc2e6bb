-- How a search among rings ends at the first that is broken: with this one, where it has the violation that is looked for.
use denote.Enum.Bare.{sameb}
use Rattle.std.specs.Prelude.{ℕ, Bool, ◌&&◌, nat_eq, if◌then◌else◌, List, Option, Some, None, Result, Ok, Err}
use Rattle.kc_outside.specs.Files.{Files}
use Rattle.kc_memory.specs.Image.{Image}
use Rattle.kc_memory.specs.Stays.{SpaceStays}
use Rattle.kc_memory.specs.contracts.rule.Rule.{the_type}
use Rattle.kc_memory.specs.declared.rule.Rule.{Rule}
use Rattle.kc_memory.specs.declared.rule.Rule.TheVariants.{K, L1, N}
use Rattle.kc_found.specs.declared.asked.Asked.{Asked}
use Rattle.kc_found.specs.declared.found.WalkStop.{WalkStop}
use Rattle.kc_found.specs.declared.found.WalkStop.TheVariants as ends
use Rattle.kc_found.specs.declared.shapes.ListShape.{ListShape}
use Rattle.kc_found.specs.Violations.{Violation}
use Rattle.kc_found.specs.Walks.{CountsWalkFaults}
use Rattle.kc_view.specs.TaskLists.{task_of}

-- the audit that a violation names
abbrev pub asked_of : Violation → Asked
asked_of v = record { audit = v.audit; start = v.start }

-- two violations are of one rule, and about one address
abbrev pub is_same : Violation → Violation → Bool
is_same v w = sameb the_type w.rule v.rule && nat_eq w.at v.at

-- where a ring is whole the search goes on with its nodes, and else it ends
abbrev pub through : {R : Type 0} → Violation → R → Result (List ℕ) Violation → (List ℕ → Result (Option R) Violation) → Result (Option R) Violation
through v ring (Ok nodes) go = go nodes
through v ring (Err w) go = if is_same v w then Ok (Some ring) else Err w

-- the end of the ring's walk as that of the search
abbrev pub told : {R : Type 0} → Violation → R → WalkStop → Result (Option R) WalkStop
told v ring (ends.Broken w) = if is_same v w then Ok (Some ring) else Err (ends.Broken w)
told v ring ends.Fault = Err ends.Fault
told v ring ends.NoMemory = Err ends.NoMemory

-- what was found, where nothing else ended the search
abbrev pub found_or_none : {R : Type 0} → Result (Option R) Violation → Option R
found_or_none (Ok found) = found
found_or_none (Err w) = None

-- the node of a ring whose pointer breaks a rule: L1 is about `prev`, K and N are about `next`
abbrev pub broken_node : ListShape → Rule → ℕ → Option ℕ
broken_node list L1 at = Some (task_of list.prev at)
broken_node list K at = Some (task_of list.next at)
broken_node list N at = Some (task_of list.next at)
broken_node list _ at = None

-- A walk that only reads a memory: that is of the same dump after it, and its count of failures rose only where reading failed.
pub record OnlyWalks {M A : Type 0} (image : M → Option Image) (files : M → Option Files) (through : M → List ℕ) (most faults : M → ℕ) (result : Result A WalkStop) (old new : M) : Type 0 where
  pub stays : SpaceStays image files through most old new
  pub cause : CountsWalkFaults result (faults old) (faults new)
