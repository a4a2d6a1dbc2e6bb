-- Where a kernel has the words of a page's descriptor. Source: the kernel's include/linux/mm_types.h, `struct page`; `flags` is a struct with the
-- member `f` from 6.18 on, and `index` has the name `__folio_index` in later kernels. kernel/vmcore_info.c (before 6.9 kernel/crash_core.c),
-- `crash_save_vmcoreinfo_init`: a kernel tells the mark of a free block's first page as NUMBER(PAGE_BUDDY_MAPCOUNT_VALUE), and how many orders there
-- are as LENGTH(zone.free_area).
use Rattle.std.specs.Prelude.{ℕ, ◌^◌, ℤ, pos, negsuc, unsigned_abs, nat_le, if◌then◌else◌, List, codes, Option, Some, None, option_and_then, option_map}
use Rattle.std.specs.Int.{int_rem_euclid}
use Rattle.std.specs.Option.{option_or}
use Rattle.kc_word.specs.Decimal.{decimal_number}
use Rattle.kc_btf.specs.Btf.{Types}
use Rattle.kc_layout.specs.declared.place.Field.{Field}
use Rattle.kc_layout.specs.Size.{size}
use Rattle.kc_notes.specs.Values.{value_of}
use Rattle.kc_kinds.specs.Kernels.{Kernel}
use Rattle.kc_kinds.specs.Members.{◌>>=◌, scalar_in, struct_named}
use Rattle.kc_slab_page.specs.declared.mark.Mark.{Mark}
use Rattle.kc_slab_page.specs.Marks.{slab_mark}
use Rattle.kc_frame.specs.declared.shape.FrameShape.{FrameShape}
use Rattle.kc_frame.specs.declared.zone.ZoneShape.{ZoneShape}
use Rattle.kc_frame.specs.Zones.{zone_shape}

-- a member by its name, or by the one that later kernels give it
abbrev pub scalar_of : Types → ℕ → List ℕ → List ℕ → Option Field
scalar_of types page name later = option_or (scalar_in types (Some page) name) (scalar_in types (Some page) later)

-- the number of a key of the notes
abbrev pub number_in : List ℕ → List ℕ → Option ℤ
number_in note key = option_and_then decimal_number (value_of key note)

-- a number as one of 32 bits
abbrev pub low_half : ℤ → ℕ
low_half n = unsigned_abs (int_rem_euclid n (pos (2 ^ 32)))

abbrev pub mark_in : List ℕ → Option ℕ
mark_in note = option_map low_half (number_in note (codes "NUMBER(PAGE_BUDDY_MAPCOUNT_VALUE)"))

-- how many orders there are: none where the notes don't tell it, or tell more than 64
unfoldable pub orders_of : Option ℤ → ℕ
orders_of None = 0
orders_of (Some (pos lists)) = if nat_le lists 64 then lists else 0
orders_of (Some (negsuc below)) = 0

abbrev pub orders_in : List ℕ → ℕ
orders_in note = orders_of (number_in note (codes "LENGTH(zone.free_area)"))

-- in a descriptor of this type and size
abbrev pub shape_by : Types → ℕ → ℕ → Option Mark → Option ZoneShape → List ℕ → FrameShape
shape_by types page bytes slab zones note = record {
  size = bytes;
  slab = slab;
  flags = scalar_of types page (codes "flags") (codes "flags.f");
  count = scalar_in types (Some page) (codes "_refcount.counter");
  maps = scalar_in types (Some page) (codes "_mapcount.counter");
  mapping = scalar_in types (Some page) (codes "mapping");
  index = scalar_of types page (codes "index") (codes "__folio_index");
  private = scalar_in types (Some page) (codes "private");
  mark = mark_in note;
  orders = orders_in note;
  zones = zones;
}

-- that of a kernel, by the notes of its dump
abbrev pub frame_shape : Kernel → List ℕ → Option FrameShape
frame_shape kernel note = do
  page ← struct_named kernel.types (codes "page")
  bytes ← size kernel.types page
  Some (shape_by kernel.types page bytes (slab_mark kernel note) (zone_shape kernel) note)
