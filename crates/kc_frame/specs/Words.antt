-- What the words of a page's descriptor say. Source: the kernel's include/linux/mm_types.h, `struct page`; include/linux/mm.h, `page_mapcount`, and
-- include/linux/page-flags.h, `page_has_type`: `_mapcount` is one less than the page tables that map a page, and less than -1 where it is the page's
-- type; PAGE_MAPPING_ANON 1, PAGE_MAPPING_MOVABLE 2, PAGE_MAPPING_KSM both: the lowest bits of `mapping` say what the page belongs to. The words of a page are
-- those of its head page (`page_folio`); a slab's has others at the places of `_mapcount`, `mapping` and `index` (mm/slab.h, `struct slab`).
use Rattle.std.specs.Prelude.{ℕ, ◌+◌, ◌-◌, ◌/◌, ◌%◌, ◌^◌, Bool, true, false, nat_eq, nat_lt, if◌then◌else◌, Option, Some, None, option_and_then}
use Rattle.kc_memory.specs.Image.{Image}
use Rattle.kc_kinds.specs.Members.{◌>>=◌}
use Rattle.kc_owner.specs.Known.{known}
use Rattle.kc_frame.specs.declared.shape.FrameShape.{FrameShape}
use Rattle.kc_frame.specs.declared.words.FrameFlags.{FrameFlags}
use Rattle.kc_frame.specs.declared.words.FrameMapping.{FrameMapping}
use Rattle.kc_frame.specs.declared.words.MappingKind.{MappingKind}
use Rattle.kc_frame.specs.declared.words.MappingKind.TheVariants.{Anonymous, Cache, Movable, Same}

-- how many page tables map a page, by a number modulo 2^64 that is one less, and none that is negative then
abbrev pub maps_by : ℕ → Option ℕ
maps_by less = if nat_lt ((less + 1) % 2 ^ 64) (2 ^ 63) then Some ((less + 1) % 2 ^ 64) else None

abbrev pub maps_at : Image → FrameShape → Bool → ℕ → Option ℕ
maps_at image shape slab head = if slab then None else option_and_then maps_by (known image head shape.maps)

-- the flags and the count, where both can be read
abbrev pub flags_at : Image → FrameShape → Bool → ℕ → Option FrameFlags
flags_at image shape slab head = do
  flags ← known image head shape.flags
  count ← known image head shape.count
  Some (record { flags = flags; count = count; maps = maps_at image shape slab head })

-- what a page belongs to, by the two lowest bits of its mapping
abbrev pub kind_of : Bool → Bool → MappingKind
kind_of false false = Cache
kind_of true false = Anonymous
kind_of false true = Movable
kind_of true true = Same

abbrev pub mapping_by : ℕ → ℕ → Option FrameMapping
mapping_by mapping index =
    if nat_eq mapping 0 then None else Some (record { kind = kind_of (nat_eq (mapping % 2) 1) (nat_eq (mapping / 2 % 2) 1); at = mapping - mapping % 4; index = index })

abbrev pub mapping_at : Image → FrameShape → ℕ → Option FrameMapping
mapping_at image shape head = do
  mapping ← known image head shape.mapping
  index ← known image head shape.index
  mapping_by mapping index
