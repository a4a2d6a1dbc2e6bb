-- The walk that is made first.
use Rattle.std.proofs.Common.{◌≡◌, ℕ, List, Option, Some, None, Result, Ok, Err, sym, ap, ◌∙◌}
use Rattle.std.specs.Prelude.{IfOk, IfSome}
use Rattle.kc_memory.specs.Image.{Image}
use Rattle.kc_found.specs.declared.failed.ReadFailed.{ReadFailed}
use Rattle.kc_found.specs.declared.found.WalkStop.{WalkStop}
use Rattle.kc_found.specs.declared.found.WalkStop.TheVariants as ends
use Rattle.kc_found.specs.Violations.{Violation}
use Rattle.kc_found.specs.Walks.{WalksAs}
use Rattle.kc_kinds.specs.Structures.{nodes_of}
use Rattle.kc_repair.specs.declared.first.FirstWalk.{FirstWalk}
use Rattle.kc_repair.specs.Repairs.{EndsAs, WalkInside, found_by, if_finds, wrong_in}

-- what a walk finds broken
pub found-as : (image : Option Image) (w : FirstWalk) (r : Result (List ℕ) WalkStop) (e : Result (Option Violation) ReadFailed)
    → WalksAs (λ x. x) (λ m. nodes_of m w.kind w.asked.audit w.asked.start) image r → EndsAs r e → IfOk e (λ found. IfSome image (λ m. found_by m w ≡ found))
found-as None w r (Ok found) walks end = tt
found-as image w r (Err stop) walks end = tt
found-as (Some m) w (Ok nodes) (Ok found) walks end =
    let none : found ≡ None = cc in
    ap wrong_in walks ∙ sym none
found-as (Some m) w (Err (ends.Broken v)) (Ok found) walks end =
    let some : found ≡ Some v = cc in
    ap wrong_in walks ∙ sym some
found-as (Some m) w (Err ends.Fault) (Ok found) walks end = let never : ⊥ = cc in absurd never
found-as (Some m) w (Err ends.NoMemory) (Ok found) walks end = let never : ⊥ = cc in absurd never

-- the walk that is kept is of a kind of the kernel's
pub finds-inside : (count : ℕ) (walk : Option FirstWalk) (again : Option Violation) → WalkInside count walk → WalkInside count (if_finds walk again)
finds-inside count walk None inside = tt
finds-inside count walk (Some v) inside = inside
