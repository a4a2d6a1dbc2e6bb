-- Program headers (gABI, "Program Header").
use Rattle.std.specs.Prelude.{ℕ, zero, suc, ◌+◌, ◌^◌, max, Bool, true, false, not, ◌&&◌, ◌==◌, nat_le, List, [], ◌∷◌, take, drop, map, filter, sum_by, if◌then◌else◌}
use Rattle.byteorder.specs.Endian.{little_number}
use Rattle.kc_word.specs.declared.plain.Segment.{Segment}
use Rattle.kc_elf.specs.declared.program_header.Kind.{Kind}
use Rattle.kc_elf.specs.declared.program_header.Kind.TheVariants.{Load, Note, Other}
use Rattle.kc_elf.specs.declared.program_header.ProgramHeader.{ProgramHeader}

-- the number of these many bytes at a place, the lowest byte first
abbrev pub number : ℕ → List ℕ → ℕ → ℕ
number width bytes place = little_number width (drop place bytes)

-- so many bytes from a place on
abbrev pub part : ℕ → ℕ → List ℕ → List ℕ
part place count bytes = take count (drop place bytes)

-- PT_LOAD is 1 and PT_NOTE is 4
abbrev pub kind_of : ℕ → Kind
kind_of n = if n == 1 then Load else (if n == 4 then Note else Other)

-- two kinds are the same
abbrev pub is_kind : Kind → Kind → Bool
is_kind Load Load = true
is_kind Note Note = true
is_kind Other Other = true
is_kind _ _ = false

-- p_type at byte 0, p_offset at 8, p_paddr at 24, p_filesz at 32, p_memsz at 40
abbrev pub program_header_of : List ℕ → ProgramHeader
program_header_of bytes = record {
  kind = kind_of (number 4 bytes 0);
  segment = record {
    paddr = number 8 bytes 24;
    filesz = number 8 bytes 32;
    memsz = number 8 bytes 40;
    offset = number 8 bytes 8;
  };
}

-- the first program headers of a table, each of 56 bytes
unfoldable pub headers : ℕ → List ℕ → List ProgramHeader
headers zero table = []
headers (suc n) table = program_header_of (take 56 table) ∷ headers n (drop 56 table)

-- the bytes stand inside a file of this size
abbrev pub has_bytes : ℕ → Segment → Bool
has_bytes size s = nat_le (s.offset + s.filesz) size

-- no byte of the memory has an address past the last
abbrev pub has_memory : Segment → Bool
has_memory s = nat_le (s.paddr + max s.filesz s.memsz) (2 ^ 64)

-- a program header that is looked at and is out of bounds
abbrev pub is_bad_of : ℕ → Kind → Segment → Bool
is_bad_of size Load s = not (has_bytes size s && has_memory s)
is_bad_of size Note s = not (has_bytes size s)
is_bad_of size Other s = false

abbrev pub is_bad : ℕ → ProgramHeader → Bool
is_bad size h = is_bad_of size h.kind h.segment

-- the segments of the program headers of one kind, in table order
abbrev pub of_kind : Kind → List ProgramHeader → List Segment
of_kind kind hs = map (λ (h : ProgramHeader). h.segment) (filter (λ h. is_kind kind h.kind) hs)

-- how many bytes they have in the file, together
abbrev pub byte_sum : List Segment → ℕ
byte_sum ss = sum_by (λ s. s.filesz) ss
