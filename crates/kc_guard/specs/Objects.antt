-- The bytes that a cache keeps at the objects of a slab. Source: the kernel's mm/slub.c, `validate_slab`: `check_object` looks at an object in
-- its slab's free list as a free one, and at another as one in use.
use Rattle.std.specs.Prelude.{ℕ, zero, suc, ◌+◌, ◌*◌, ◌%◌, ◌^◌, Bool, nat_eq, if◌then◌else◌, List, [], ◌∷◌, Option, Some, None, option_map, Result, Ok, Err}
use Rattle.std.specs.BTreeMap.{is_at}
use Rattle.std.specs.List.{list_any}
use Rattle.std.specs.Ordering.{nat_cmp}
use Rattle.std.specs.Set.{is_member}
use Rattle.kc_memory.specs.Image.{Image}
use Rattle.kc_found.specs.declared.asked.Asked.{Asked}
use Rattle.kc_found.specs.declared.free.Grid.{Grid}
use Rattle.kc_found.specs.Nodes.{at_offset}
use Rattle.kc_found.specs.Trials.{and_then}
use Rattle.kc_found.specs.Violations.{Violation}
use Rattle.kc_guard.specs.declared.byte.WrongByte.{WrongByte}
use Rattle.kc_guard.specs.declared.guards.GuardRun.{GuardRun}
use Rattle.kc_guard.specs.declared.object.Spoiled.{Spoiled}
use Rattle.kc_guard.specs.Bytes.{other_from}

-- what the bytes of a run are at a free object, or at one in use
abbrev pub byte_of : GuardRun → Bool → Option ℕ
byte_of run free = if free then run.free else run.used

-- the first byte of a run that is another one, at an object
abbrev pub spoiled_by : GuardRun → ℕ → ℕ → WrongByte → Spoiled
spoiled_by run byte object w = record { object = object; rule = run.rule; at = w.at; expected = byte; place = w.place }

abbrev pub run_by : Image → Asked → ℕ → GuardRun → Option ℕ → Result (Option Spoiled) Violation
run_by image asked object run None = Ok None
run_by image asked object run (Some byte) =
    and_then (other_from image asked byte run.count (at_offset object run.from)) (λ w. Ok (option_map (spoiled_by run byte object) w))

abbrev pub run_checked : Image → Asked → Bool → ℕ → GuardRun → Result (Option Spoiled) Violation
run_checked image asked free object run = run_by image asked object run (byte_of run free)

-- what comes first of two looks, one after the other
abbrev pub or_next : Result (Option Spoiled) Violation → Result (Option Spoiled) Violation → Result (Option Spoiled) Violation
or_next (Ok None) next = next
or_next (Ok (Some s)) next = Ok (Some s)
or_next (Err v) next = Err v

-- the first wrong byte at an object, run by run
unfoldable pub object_checked : Image → Asked → Bool → ℕ → List GuardRun → Result (Option Spoiled) Violation
object_checked image asked free object [] = Ok None
object_checked image asked free object (r ∷ rs) = or_next (run_checked image asked free object r) (object_checked image asked free object rs)

-- the address of an object of a slab, by its number
abbrev pub object_at : Grid → ℕ → ℕ
object_at grid number = (grid.base + grid.size * number) % 2 ^ 64

-- the first wrong byte at so many objects, from a number on
unfoldable pub objects_from : Image → Asked → List GuardRun → Grid → (ℕ → Bool) → ℕ → ℕ → Result (Option Spoiled) Violation
objects_from image asked runs grid free zero number = Ok None
objects_from image asked runs grid free (suc left) number =
    or_next (object_checked image asked (free (object_at grid number)) (object_at grid number) runs) (objects_from image asked runs grid free left (suc number))

-- an object is in a free list; and it is among addresses that rise, where it is looked up by their order
abbrev pub looked_up : List ℕ → ℕ → Bool
looked_up addresses object = list_any (is_at (nat_cmp object)) addresses

abbrev pub is_free : List ℕ → ℕ → Bool
is_free free object = is_member nat_eq free object

-- and at all objects of a slab with this free list
abbrev pub objects_checked : Image → Asked → List GuardRun → Grid → List ℕ → Result (Option Spoiled) Violation
objects_checked image asked runs grid free = objects_from image asked runs grid (is_free free) grid.objects 0
