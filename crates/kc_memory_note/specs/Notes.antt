-- The VMCOREINFO note in the memory of a dump. The kernel keeps it in pages of its own, from the start of the first one on
-- (kernel/vmcore_info.c, `vmcoreinfo_note` and `update_vmcoreinfo_note`; in kernel/crash_core.c before Linux 6.9). It is an ELF note (gABI, "Note
-- Section") with the name VMCOREINFO and the type 0, and its text begins with the kernel's release (`VMCOREINFO_OSRELEASE`).
use Rattle.std.specs.Prelude.{ℕ, zero, suc, ◌+◌, ◌-◌, ◌*◌, ◌/◌, ◌%◌, ◌≤◌, Bool, ◌&&◌, ◌==◌, nat_le, if◌then◌else◌, List, [], ◌∷◌, ◌++◌, codes, Option, Some, None, option_and_then}
use Rattle.std.specs.List.{before_first}
use Rattle.std.specs.Option.{option_or}
use Rattle.std.specs.Str.{bytes_eq}
use Rattle.kc_word.specs.declared.plain.Segment.{Segment}
use Rattle.kc_elf.specs.Headers.{number, part}

-- These are the note's first 34 bytes: the sizes of its name and of its text, its type, the name with its NUL and its padding, and the first key.
abbrev pub starts_note : List ℕ → Bool
starts_note head =
    (number 4 head 0 == 11) && ((number 4 head 8 == 0) && bytes_eq (part 12 22 head) (codes "VMCOREINFO" ++ 0 ∷ 0 ∷ codes "OSRELEASE="))

-- how many bytes the text has, by the note's first bytes
abbrev pub size_in : List ℕ → Option ℕ
size_in head = if starts_note head then Some (number 4 head 4) else None

-- a text of so many bytes, up to its first NUL: it has 65,536 bytes at most, and the note lies whole in the room that there is
abbrev pub text_by : List ℕ → ℕ → ℕ → ℕ → Option (List ℕ)
text_by bytes off room size =
    if nat_le size 65536 && nat_le (24 + size) room then Some (before_first (λ c. c == 0) (part (off + 24) size bytes)) else None

-- the text of the note that begins at a file offset, with so much room after it
abbrev pub text_at : List ℕ → ℕ → ℕ → Option (List ℕ)
text_at bytes off room = if nat_le 34 room then option_and_then (text_by bytes off room) (size_in (part off 34 bytes)) else None

-- A page begins at each multiple of 4096. How many bytes of a segment come before the page with this number, and how many pages begin in its file bytes.
abbrev pub page_place : Segment → ℕ → ℕ
page_place s page = (4096 - s.paddr % 4096) % 4096 + 4096 * page

abbrev pub page_count : Segment → ℕ
page_count s = (s.filesz - page_place s 0 + 4095) / 4096

-- the text of the note that a page begins with; it doesn't pass the file bytes of the page's segment
abbrev pub page_text : List ℕ → Segment → ℕ → Option (List ℕ)
page_text bytes s page = text_at bytes (s.offset + page_place s page) (s.filesz - page_place s page)

-- that of the first page which begins with one, of so many from a number on
unfoldable pub pages_note : List ℕ → Segment → ℕ → ℕ → Option (List ℕ)
pages_note bytes s zero page = None
pages_note bytes s (suc more) page = option_or (page_text bytes s page) (pages_note bytes s more (page + 1))

-- of a segment, and of the first segment that has such a page
abbrev pub segment_note : List ℕ → Segment → Option (List ℕ)
segment_note bytes s = pages_note bytes s (page_count s) 0

unfoldable pub memory_note : List ℕ → List Segment → Option (List ℕ)
memory_note bytes [] = None
memory_note bytes (s ∷ segments) = option_or (segment_note bytes s) (memory_note bytes segments)

-- a segment's file bytes lie inside a file of this size
abbrev pub IsInside : ℕ → Segment → Type 0
IsInside size s = s.offset + s.filesz ≤ size
