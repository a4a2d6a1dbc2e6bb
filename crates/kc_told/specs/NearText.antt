-- What is printed of where a word beside an address leads to.
use Rattle.std.specs.Prelude.{ℕ, Bool, true, false, List, [], ◌++◌, codes, decimal, map, Option, Some, None, Result, Ok, Err}
use Rattle.kc_text.specs.Text.{hex, visible}
use Rattle.kc_found.specs.Violations.{Violation}
use Rattle.kc_owner.specs.declared.object.described.Described.{Described}
use Rattle.kc_owner.specs.declared.object.free.FreeSpot.{FreeSpot}
use Rattle.kc_owner.specs.declared.object.held.Held.{Held}
use Rattle.kc_owner.specs.declared.object.slab.Slab.{Slab}
use Rattle.kc_owner.specs.declared.object.spot.Spot.{Spot}
use Rattle.kc_owner.specs.declared.object.spot.Spot.TheVariants.{Object}
use Rattle.kc_told.specs.declared.near.Lead.{Lead}
use Rattle.kc_told.specs.Inside.{Kept}

-- a byte of an object: the name of the object's cache, the byte, and what is said of whether the object is free
pub record InObject : Type 0 where
  pub name : List ℕ
  pub byte : ℕ
  pub mark : List ℕ

-- free where the list of a processor that owns the slab has it; `frozen` where that can't be told
abbrev pub kept_mark : Kept → List ℕ
kept_mark None = codes " frozen"
kept_mark (Some (Ok (Some s))) = codes " free"
kept_mark (Some (Ok None)) = []
kept_mark (Some (Err v)) = codes " frozen"

-- free also where the slab's own list has it
abbrev pub place_mark : Option ℕ → Bool → Kept → List ℕ
place_mark (Some place) frozen kept = codes " free"
place_mark None true kept = kept_mark kept
place_mark None false kept = []

-- where the list is broken before it comes to the object, that isn't known
abbrev pub free_mark : Result FreeSpot Violation → Bool → Kept → List ℕ
free_mark (Ok free) frozen kept = place_mark free.place frozen kept
free_mark (Err v) frozen kept = codes " unknown"

abbrev pub spot_in : Slab → Kept → Spot → Option InObject
spot_in s kept (Object o) = Some (record { name = s.cache.name; byte = o.byte; mark = free_mark s.free s.counts.frozen kept })
spot_in s kept _ = None

abbrev pub slab_in : Kept → Result (Option Slab) Violation → Option InObject
slab_in kept (Ok (Some s)) = spot_in s kept s.spot
slab_in kept (Ok None) = None
slab_in kept (Err v) = None

-- the object that holds an address
abbrev pub object_in : Kept → Option (Result Held Violation) → Option InObject
object_in kept None = None
object_in kept (Some (Ok h)) = slab_in kept h.slab
object_in kept (Some (Err v)) = None

abbrev pub in_object_text : InObject → List ℕ
in_object_text o = codes "object " ++ map visible o.name ++ codes "+" ++ decimal o.byte ++ o.mark

-- the page whose descriptor it is, by its number
abbrev pub descriptor_text : Described → List ℕ
descriptor_text d = (codes "descriptor " ++ hex d.number) ++ (codes "+" ++ decimal d.byte)

-- else it is a number
abbrev pub described_text : Option Described → List ℕ
described_text None = codes "number"
described_text (Some d) = descriptor_text d

abbrev pub led_text : Option InObject → Option Described → List ℕ
led_text (Some o) page = in_object_text o
led_text None page = described_text page

abbrev pub lead_text : Lead → List ℕ
lead_text l = led_text (object_in l.kept l.held) l.described
