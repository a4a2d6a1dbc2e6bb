-- How program headers are spelled in a file (gABI, "ELF Header" and "Program Header").
use Rattle.std.specs.Prelude.{◌≡◌, ℕ, ◌+◌, ◌*◌, ◌^◌, ◌<◌, ◌≤◌, ◌⊎◌, max, List, length}
use Rattle.kc_word.specs.declared.plain.Segment.{Segment}
use Rattle.kc_elf.specs.Headers.{number}

-- The 56 bytes at a place of the file are a program header of this p_type, with these p_offset, p_paddr,
-- p_filesz and p_memsz.
pub record Spells (bytes : List ℕ) (place kind : ℕ) (s : Segment) : Type 0 where
  pub whole : place + 56 ≤ length bytes
  pub p_type : number 4 bytes place ≡ kind
  pub p_offset : number 8 bytes (place + 8) ≡ s.offset
  pub p_paddr : number 8 bytes (place + 24) ≡ s.paddr
  pub p_filesz : number 8 bytes (place + 32) ≡ s.filesz
  pub p_memsz : number 8 bytes (place + 40) ≡ s.memsz

-- the place of a program header, by e_phoff at byte 32
abbrev pub header_place : List ℕ → ℕ → ℕ
header_place bytes index = number 8 bytes 32 + 56 * index

-- Some program header of the file is a PT_LOAD with these values, and its bytes are inside the file.
abbrev pub IsLoaded : List ℕ → Segment → Type 0
IsLoaded bytes s = (index : ℕ) × Spells bytes (header_place bytes index) 1 s × (s.offset + s.filesz ≤ length bytes)

-- The bytes of a PT_LOAD or a PT_NOTE pass the file's end, or the memory of a PT_LOAD passes 2^64.
abbrev pub IsPastEnd : ℕ → ℕ → Segment → Type 0
IsPastEnd size kind s =
    (((kind ≡ 1) ⊎ (kind ≡ 4)) × (size < s.offset + s.filesz))
    ⊎ ((kind ≡ 1) × (2 ^ 64 < s.paddr + max s.filesz s.memsz))

-- the program header with this index is out of bounds
abbrev pub IsOutOfBounds : List ℕ → ℕ → Type 0
IsOutOfBounds bytes index = (kind : ℕ) × (s : Segment) × Spells bytes (header_place bytes index) kind s × IsPastEnd (length bytes) kind s
