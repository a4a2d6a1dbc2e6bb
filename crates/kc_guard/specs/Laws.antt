-- What is told of the bytes of a slab's objects is true of the dump.
use Rattle.std.specs.Prelude.{◌≡◌, ℕ, ◌<◌, Bool, false, List, [], ◌∷◌, Option, Some, None, option_map, Result, Ok, Err, ⊤}
use Rattle.std.specs.List.{AllByRecursion}
use Rattle.kc_memory.specs.Bits.{Number, bits}
use Rattle.kc_memory.specs.Image.{Image}
use Rattle.kc_memory.specs.Places.{AllStandIn}
use Rattle.kc_found.specs.declared.asked.Asked.{Asked}
use Rattle.kc_found.specs.declared.free.Grid.{Grid}
use Rattle.kc_found.specs.FreeLists.{low_word}
use Rattle.kc_found.specs.Nodes.{at_offset, readable}
use Rattle.kc_found.specs.Violations.{Violation}
use Rattle.kc_guard.specs.declared.guards.GuardRun.{GuardRun}
use Rattle.kc_guard.specs.declared.object.Spoiled.{Spoiled}
use Rattle.kc_guard.specs.Objects.{byte_of, is_free, object_at, objects_checked}

-- the byte at an address can be read and is this one
abbrev pub byte_read : Image → ℕ → Option ℕ
byte_read image at = option_map (λ (n : Number). low_word n.value) (readable (bits image at 0 8 false))

-- so are so many of them, from an address on
abbrev pub AreBytes : Image → ℕ → ℕ → ℕ → Type 0
AreBytes image byte count from = (k : ℕ) → k < count → byte_read image (at_offset from k) ≡ Some byte

-- the bytes of a run are what they have to be at a free object, or at one in use
abbrev pub RunHolds : Image → Bool → ℕ → GuardRun → Type 0
RunHolds image free object run = (byte : ℕ) → byte_of run free ≡ Some byte → AreBytes image byte run.count (at_offset object run.from)

-- where no object of a slab is spoiled, each byte that is kept at each of its objects is
abbrev pub GuardsHold : Type 0
GuardsHold =
    (image : Image) (asked : Asked) (runs : List GuardRun) (grid : Grid) (free : List ℕ) → objects_checked image asked runs grid free ≡ Ok None
    → (number : ℕ) → number < grid.objects → AllByRecursion (RunHolds image (is_free free (object_at grid number)) (object_at grid number)) runs

-- the word of a wrong byte stands in the dump, at the place that is shown; the byte can be read, and isn't what it has to be
pub record Stands (image : Image) (s : Spoiled) : Type 0 where
  pub place : AllStandIn image (s.place ∷ [])
  pub byte : ℕ
  pub read : byte_read image s.at ≡ Some byte
  pub other : byte ≡ s.expected → ⊥

-- so it is where a look ends at one; and where it ends at a byte that can't be read, the words that show why stand in the dump
abbrev pub Shown : Image → Result (Option Spoiled) Violation → Type 0
Shown image (Ok None) = ⊤
Shown image (Ok (Some s)) = Stands image s
Shown image (Err v) = AllStandIn image v.places

abbrev pub SpoiledStand : Type 0
SpoiledStand = (image : Image) (asked : Asked) (runs : List GuardRun) (grid : Grid) (free : List ℕ) → Shown image (objects_checked image asked runs grid free)
