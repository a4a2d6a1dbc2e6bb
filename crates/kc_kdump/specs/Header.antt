-- The two headers of a compressed dump (makedumpfile, diskdump_mod.h: struct disk_dump_header and struct
-- kdump_sub_header; its IMPLEMENTATION file has the order of the parts).
use Rattle.std.specs.Prelude.{ℕ, ◌+◌, ◌*◌, ◌/◌, ◌%◌, Bool, not, ◌&&◌, ◌||◌, ◌==◌, nat_le, nat_lt, List, codes, Option, Some, None, Result, Ok, Err, if◌then◌else◌}
use Rattle.std.specs.Str.{bytes_eq}
use Rattle.kc_kdump.specs.declared.fault.KdumpFault.{KdumpFault}
use Rattle.kc_kdump.specs.declared.fault.KdumpFault.TheVariants.{K1, K2, K3, K4, K5, K6, K7}
use Rattle.kc_kdump.specs.declared.layout.Layout.{Layout}
use Rattle.kc_kdump.specs.Bytes.{number, part}
use Rattle.kc_kdump.specs.Erased.{joined_size}

-- `signature`, the first 8 bytes: of the format, and of the older one
abbrev pub is_new : List ℕ → Bool
is_new header = bytes_eq (part 0 8 header) (codes "KDUMP   ")

abbrev pub is_old : List ℕ → Bool
is_old header = bytes_eq (part 0 8 header) (codes "DISKDUMP")

-- a file is a compressed dump where it begins so
abbrev pub is_kdump : List ℕ → Bool
is_kdump bytes = is_new bytes || is_old bytes

-- `header_version` at byte 8 of the header
abbrev pub version_of : List ℕ → ℕ
version_of header = number 4 header 8

-- `bitmap_blocks` at byte 436: how many blocks of 4096 bytes both bitmaps have together
abbrev pub bitmap_blocks : List ℕ → ℕ
bitmap_blocks header = number 4 header 436

-- Of the sub header's fields `split` is there from version 2 on, `offset_note` and `size_note` from version 4 on,
-- `offset_eraseinfo` and `size_eraseinfo` from version 5 on, and `max_mapnr_64` from version 6 on (the comments at struct kdump_sub_header).
abbrev pub since : ℕ → List ℕ → ℕ → ℕ
since version header field = if nat_le version (version_of header) then field else 0

-- What is wrong with the headers, in this order: an older signature, a version that isn't 1 to 6, `block_size` at byte
-- 428, and `split` at byte 12 of the sub header.
unfoldable pub header_fault : List ℕ → List ℕ → Option KdumpFault
header_fault header sub =
    if not (is_new header) then Some K2
    else (if not (nat_le 1 (version_of header) && nat_le (version_of header) 6) then Some K3
    else (if not (number 4 header 428 == 4096) then Some K4
    else (if not (since 2 header (number 4 sub 12) == 0) then Some K5
    else None)))

-- `max_mapnr` at byte 440 of the header, or from version 6 on `max_mapnr_64` at byte 96 of the sub header: how many
-- page frames there are
unfoldable pub frames_in : List ℕ → List ℕ → ℕ
frames_in header sub = if version_of header == 6 then number 8 sub 96 else number 4 header 440

-- where the bitmaps begin: the first block is the header's, and `sub_hdr_size` at byte 432 more are the sub header's
unfoldable pub bitmaps_in : List ℕ → ℕ
bitmaps_in header = 4096 * (1 + number 4 header 432)

-- how many bytes each bitmap has
unfoldable pub half_in : List ℕ → ℕ
half_in header = 4096 * (bitmap_blocks header / 2)

-- `offset_note` and `size_note` at bytes 48 and 56 of the sub header: before version 4 there are no notes
unfoldable pub note_offset_in : List ℕ → List ℕ → ℕ
note_offset_in header sub = since 4 header (number 8 sub 48)

unfoldable pub note_size_in : List ℕ → List ℕ → ℕ
note_size_in header sub = since 4 header (number 8 sub 56)

-- `offset_eraseinfo` and `size_eraseinfo` at bytes 64 and 72 of the sub header
unfoldable pub erase_offset_in : List ℕ → List ℕ → ℕ
erase_offset_in header sub = since 5 header (number 8 sub 64)

unfoldable pub erase_size_in : List ℕ → List ℕ → ℕ
erase_size_in header sub = since 5 header (number 8 sub 72)

-- whether `status` at byte 424 has DUMP_DH_COMPRESSED_INCOMPLETE, which is 8: its writer had no room for all pages
unfoldable pub is_cut_in : List ℕ → Bool
is_cut_in header = number 4 header 424 / 8 % 2 == 1

-- where the parts are by the two headers
abbrev pub layout_by : List ℕ → List ℕ → Layout
layout_by header sub = record {
  frames = frames_in header sub;
  bitmaps = bitmaps_in header;
  half = half_in header;
  note_offset = note_offset_in header sub;
  note_size = note_size_in header sub;
  erase_offset = erase_offset_in header sub;
  erase_size = erase_size_in header sub;
  is_cut = is_cut_in header;
}

-- where the descriptors begin, after both bitmaps
abbrev pub table_in : Layout → ℕ
table_in layout = layout.bitmaps + 2 * layout.half

-- whether a bitmap has a bit for each page frame, and both are inside a file of this size
abbrev pub has_bitmaps : ℕ → Layout → Bool
has_bitmaps size layout = nat_le layout.frames (8 * layout.half) && nat_le (table_in layout) size

-- whether notes and erase info of these sizes have at most 16 MiB, each and together as notes
abbrev pub is_small : ℕ → ℕ → Bool
is_small notes erased = nat_le notes 16777216 && nat_le erased 16777216 && nat_le (joined_size notes erased) 16777216

-- whether the notes and the erase info are inside a file of this size, and small
abbrev pub has_notes : ℕ → Layout → Bool
has_notes size layout =
    nat_le (layout.note_offset + layout.note_size) size && nat_le (layout.erase_offset + layout.erase_size) size
    && is_small layout.note_size layout.erase_size

-- where the parts are in a file of this size, by the number of the bitmaps' blocks
unfoldable pub placed : ℕ → ℕ → Layout → Result Layout KdumpFault
placed size blocks layout =
    if not ((blocks % 2 == 0) && has_bitmaps size layout) then Err K6
    else (if not (has_notes size layout) then Err K7
    else Ok layout)

-- a fault, or else what follows
abbrev pub unless : {A : Type 0} → Option KdumpFault → Result A KdumpFault → Result A KdumpFault
unless None r = r
unless (Some fault) r = Err fault

-- the same by the two headers
unfoldable pub layout_in : ℕ → List ℕ → List ℕ → Result Layout KdumpFault
layout_in size header sub = unless (header_fault header sub) (placed size (bitmap_blocks header) (layout_by header sub))

-- the same by the file: the header has 464 bytes, and the sub header has 104 bytes from byte 4096 on
unfoldable pub layout_of : ℕ → List ℕ → Result Layout KdumpFault
layout_of size bytes =
    if nat_lt size 4200 then Err K1
    else layout_in size (part 0 464 bytes) (part 4096 104 bytes)
