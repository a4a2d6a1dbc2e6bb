-- What is told of an object is true of the dump.
use Rattle.std.specs.Prelude.{◌≡◌, ℕ, ◌+◌, ◌-◌, ◌*◌, ◌<◌, ⊤, List, [], length, slice_get, Option, Some, None, Result, Ok, Err, IfOk, IfSome}
use Rattle.std.specs.List.{AllByRecursion}
use Rattle.kc_memory.specs.declared.words.Place.{Place}
use Rattle.kc_memory.specs.Image.{Image}
use Rattle.kc_memory.specs.Places.{AllStandIn}
use Rattle.kc_view.specs.declared.slub.SlubBases.{SlubBases}
use Rattle.kc_view.specs.declared.slub.SlubShape.{SlubShape}
use Rattle.kc_view.specs.Caches.{grid_of}
use Rattle.kc_view.specs.Fields.{FieldIs}
use Rattle.kc_found.specs.declared.free.Grid.{Grid}
use Rattle.kc_found.specs.FiniteLists.{FreeChain}
use Rattle.kc_found.specs.FreeLists.{number_in}
use Rattle.kc_found.specs.Nodes.{at_offset}
use Rattle.kc_found.specs.Violations.{Violation}
use Rattle.kc_owner.specs.declared.object.free.FreeSpot.{FreeSpot}
use Rattle.kc_owner.specs.declared.object.held.Held.{Held}
use Rattle.kc_owner.specs.declared.object.shape.ObjectShape.{ObjectShape}
use Rattle.kc_owner.specs.declared.object.slab.Slab.{Slab}
use Rattle.kc_owner.specs.declared.object.spot.ObjectSpot.{ObjectSpot}
use Rattle.kc_owner.specs.declared.object.spot.Spot.{Spot}
use Rattle.kc_owner.specs.declared.object.spot.Spot.TheVariants.{Before, Pad, Object, Past}
use Rattle.kc_owner.specs.Looked.{looked_at}
use Rattle.kc_owner.specs.Object.Pages.{bases_at}
use Rattle.kc_owner.specs.Object.Slabs.{held}

-- the words that show why something can't be told
abbrev pub broken_places : {A : Type 0} → Result A Violation → List Place
broken_places (Ok x) = []
broken_places (Err v) = v.places

abbrev pub slab_places : Result (Option Slab) Violation → List Place
slab_places (Ok None) = []
slab_places (Ok (Some s)) = broken_places s.free
slab_places (Err v) = v.places

abbrev pub places : Result Held Violation → List Place
places (Ok h) = slab_places h.slab
places (Err v) = v.places

-- each of them stands in the dump, at the place that is shown
abbrev pub ObjectsStand : Type 0
ObjectsStand = (image : Image) (shape : ObjectShape) (pa : ℕ) → AllStandIn image (places (held image shape pa))

-- The byte at a physical address is one of an object, where physical memory begins at a virtual address: the object is one of the slab's; each
-- begins `size` bytes after the one before, the first after its left padding; and the byte is before the next one's padding.
pub record IsByteOf (s : Slab) (direct pa : ℕ) (o : ObjectSpot) : Type 0 where
  pub one : o.number < s.counts.objects
  pub grid : o.first ≡ at_offset s.first (s.objects.left_pad + s.objects.size * o.number)
  pub inside : o.byte + s.objects.left_pad < s.objects.size
  pub address : at_offset direct pa ≡ at_offset o.first o.byte

-- an object is the one with a number of a list, from 1 on, or it isn't in the list
abbrev pub IsPlace : List ℕ → ℕ → Option ℕ → Type 0
IsPlace objects at None = AllByRecursion (λ x. x ≡ at → ⊥) objects
IsPlace objects at (Some place) = slice_get objects (place - 1) ≡ Some at

-- what is told of a free object: the slab's own list is a finite free list, and this is the object's place in it
pub record IsFreeAt (image : Image) (shape : SlubShape) (grid : Grid) (slab at : ℕ) (f : FreeSpot) : Type 0 where
  pub first : ℕ
  pub freelist : FieldIs image slab shape.freelist first
  pub objects : List ℕ
  pub chain : FreeChain (number_in image) grid first objects
  pub all : f.length ≡ length objects
  pub place : IsPlace objects at f.place

-- what is told of a byte of an object, and of whether the object is free
pub record IsHeld (image : Image) (shape : ObjectShape) (head pa : ℕ) (s : Slab) (o : ObjectSpot) : Type 0 where
  pub bases : SlubBases
  pub are : bases_at image (looked_at pa) shape.slub ≡ Ok bases
  pub byte : IsByteOf s bases.direct pa o
  pub free : IfOk s.free (IsFreeAt image shape.slub (grid_of shape.slub bases s.objects head s.counts.objects) head o.first)

abbrev pub IfObject : Spot → (ObjectSpot → Type 0) → Type 0
IfObject (Object o) P = P o
IfObject (Pad number) P = ⊤
IfObject Before P = ⊤
IfObject Past P = ⊤

-- so it is wherever an object is told
abbrev pub ObjectsHold : Type 0
ObjectsHold =
    (image : Image) (shape : ObjectShape) (pa : ℕ)
    → IfOk (held image shape pa) (λ h. IfOk h.slab (λ found. IfSome found (λ s. IfObject s.spot (IsHeld image shape h.page.head pa s))))
