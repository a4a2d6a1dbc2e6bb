-- The kernel's own mark of a slab's first page. Source: the kernel's include/linux/page-flags.h, `PG_slab` of the field `flags` up to 6.9,
-- and the page types of the field `page_type` from 6.10 on; kernel/vmcore_info.c (before 6.9 kernel/crash_core.c),
-- `crash_save_vmcoreinfo_init`: a kernel tells the bit as NUMBER(PG_slab), and the page type as NUMBER(PAGE_SLAB_MAPCOUNT_VALUE).
use Rattle.std.specs.Prelude.{ℕ, ◌^◌, ℤ, pos, negsuc, unsigned_abs, Bool, nat_eq, nat_lt, not, bit_and, if◌then◌else◌, List, codes, Option, Some, None, option_and_then, option_map}
use Rattle.std.specs.Int.{int_rem_euclid}
use Rattle.std.specs.Option.{option_or}
use Rattle.kc_word.specs.Decimal.{decimal_number}
use Rattle.kc_btf.specs.Btf.{Types}
use Rattle.kc_layout.specs.declared.place.Field.{Field}
use Rattle.kc_memory.specs.Image.{Image}
use Rattle.kc_notes.specs.Values.{value_of}
use Rattle.kc_kinds.specs.Kernels.{Kernel}
use Rattle.kc_kinds.specs.Members.{scalar_in, struct_named}
use Rattle.kc_owner.specs.Known.{known}
use Rattle.kc_slab_page.specs.declared.mark.Mark.{Mark}
use Rattle.kc_slab_page.specs.declared.mark.Mark.TheVariants.{Flag, PageType}

-- the number of a key of the notes
abbrev pub number_of : List ℕ → List ℕ → Option ℤ
number_of note key = option_and_then decimal_number (value_of key note)

-- a number that has one bit
unfoldable pub mask_of : ℤ → Option ℕ
mask_of (pos bit) = if nat_lt bit 64 then Some (2 ^ bit) else None
mask_of (negsuc below) = None

-- a number as one of 32 bits
abbrev pub word_of : ℤ → ℕ
word_of n = unsigned_abs (int_rem_euclid n (pos (2 ^ 32)))

-- a bit of `flags`
abbrev pub bit_of : List ℕ → Option ℕ
bit_of note = option_and_then mask_of (number_of note (codes "NUMBER(PG_slab)"))

abbrev pub flag_mark : Types → Option ℕ → List ℕ → Option Mark
flag_mark types page note =
    option_map (λ bit. Flag (scalar_in types page (codes "flags")) bit) (bit_of note)

-- a number that `page_type` is
abbrev pub type_mark : Types → Option ℕ → List ℕ → Option Mark
type_mark types page note =
    option_map (λ n. PageType (scalar_in types page (codes "page_type")) (word_of n)) (number_of note (codes "NUMBER(PAGE_SLAB_MAPCOUNT_VALUE)"))

-- how a kernel with this type of page descriptors marks a slab's first page
abbrev pub mark_of : Types → Option ℕ → List ℕ → Option Mark
mark_of types page note = option_or (flag_mark types page note) (type_mark types page note)

-- that of a kernel, by the notes of its dump
abbrev pub slab_mark : Kernel → List ℕ → Option Mark
slab_mark kernel note = mark_of kernel.types (struct_named kernel.types (codes "page")) note

-- a number has the mark
abbrev pub has_mark : Mark → ℕ → Bool
has_mark (Flag flags bit) n = not (nat_eq (bit_and n bit) 0)
has_mark (PageType field number) n = nat_eq n number

abbrev pub field_in : Mark → Option Field
field_in (Flag flags bit) = flags
field_in (PageType field number) = field

-- a page's descriptor has the mark, where that can be read
abbrev pub marked : Image → Mark → ℕ → Option Bool
marked image mark descriptor = option_map (has_mark mark) (known image descriptor (field_in mark))
