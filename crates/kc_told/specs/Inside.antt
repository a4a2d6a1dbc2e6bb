-- The object that has an address, whether it is free, and how words that say the same lie in it. Source of where an object ends: the kernel's
-- include/linux/slub_def.h (from 6.8 on mm/slab.h), `size` bytes from one object to the next, of which the next one's `red_left_pad` are no object's.
use Rattle.std.specs.Prelude.{ℕ, ◌+◌, ◌-◌, ◌==◌, ◌&&◌, min, Bool, true, false, if◌then◌else◌, List, [], ◌++◌, codes, decimal, Option, Some, None, Result, Ok, Err}
use Rattle.kc_found.specs.Violations.{Violation}
use Rattle.kc_owner.specs.declared.object.free.FreeSpot.{FreeSpot}
use Rattle.kc_owner.specs.declared.object.held.Held.{Held}
use Rattle.kc_owner.specs.declared.object.slab.Slab.{Slab}
use Rattle.kc_owner.specs.declared.object.spot.ObjectSpot.{ObjectSpot}
use Rattle.kc_owner.specs.declared.object.spot.Spot.{Spot}
use Rattle.kc_owner.specs.declared.object.spot.Spot.TheVariants.{Object}
use Rattle.kc_slab_scan.specs.declared.cpu_object.CpuSpot.{CpuSpot}
use Rattle.kc_told.specs.declared.inside.Cover.{Cover}
use Rattle.kc_told.specs.declared.span.Bounds.{Bounds}

-- where a processor's own free list has an object
abbrev pub Kept : Type 0
Kept = Option (Result (Option CpuSpot) Violation)

-- an object, and its slab
pub record InSlab : Type 0 where
  pub slab : Slab
  pub object : ObjectSpot

abbrev pub in_slab : Slab → Spot → Option InSlab
in_slab s (Object o) = Some (record { slab = s; object = o })
in_slab s _ = None

abbrev pub in_some_slab : Result (Option Slab) Violation → Option InSlab
in_some_slab (Ok (Some s)) = in_slab s s.spot
in_some_slab (Ok None) = None
in_some_slab (Err v) = None

-- the object that has an address
abbrev pub object_at : Option (Result Held Violation) → Option InSlab
object_at None = None
object_at (Some (Ok h)) = in_some_slab h.slab
object_at (Some (Err v)) = None

-- a processor's own free list has it
abbrev pub is_kept : Kept → Bool
is_kept (Some (Ok (Some s))) = true
is_kept _ = false

-- so has its slab's, or such a processor's; of a broken list nothing is known
abbrev pub is_free_by : Option ℕ → Kept → Bool
is_free_by (Some place) kept = true
is_free_by None kept = is_kept kept

abbrev pub is_free : Result FreeSpot Violation → Kept → Bool
is_free (Ok free) kept = is_free_by free.place kept
is_free (Err v) kept = false

-- how words lie in an object of so many bytes that begin `below` bytes under one of its bytes and end `above` bytes over it: how many of their bytes
-- are before the object, the first and the last one of the object's that they have, and how many are after it
abbrev pub cover : ℕ → ℕ → ℕ → ℕ → Cover
cover below above byte bytes = record {
  before = below - byte;
  first = byte - below;
  last = min (byte + above) (bytes - 1);
  after = above - (bytes - byte - 1);
  bytes = bytes;
}

-- an object's bytes: those of the left red zone after it are the next one's
abbrev pub object_bytes : Slab → ℕ
object_bytes s = s.objects.size - s.objects.left_pad

-- how they lie in the object that has an address between them
abbrev pub cover_in : ℕ → Bounds → InSlab → Cover
cover_in address b o = cover (address - b.first) (b.last - address) o.object.byte (object_bytes o.slab)

-- they have all of it
abbrev pub is_whole : Cover → Bool
is_whole c = c.first == 0 && c.last == c.bytes - 1

abbrev pub part_text : Cover → List ℕ
part_text c =
    if is_whole c then codes "object" else codes "byte " ++ decimal c.first ++ codes " to " ++ decimal c.last ++ codes " of " ++ decimal c.bytes

abbrev pub before_text : ℕ → List ℕ
before_text n = if n == 0 then [] else decimal n ++ codes " before and "

abbrev pub after_text : ℕ → List ℕ
after_text n = if n == 0 then [] else codes " and " ++ decimal n ++ codes " after"

abbrev pub cover_line : Cover → List ℕ
cover_line c = codes "covers " ++ before_text c.before ++ part_text c ++ after_text c.after ++ codes "\n"

-- where the address lies in an object
abbrev pub cover_object : ℕ → Bounds → Option InSlab → List ℕ
cover_object address b None = []
cover_object address b (Some o) = cover_line (cover_in address b o)

-- they are all of its 4096 bytes
abbrev pub cover_page : Bounds → List ℕ
cover_page b = if b.last - b.first == 4095 then codes "covers page\n" else []

abbrev pub cover_lines : ℕ → Option Bounds → Option InSlab → List ℕ
cover_lines address None o = []
cover_lines address (Some b) o = cover_page b ++ cover_object address b o
