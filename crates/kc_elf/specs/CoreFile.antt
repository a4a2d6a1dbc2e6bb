-- What a core file holds, over the whole list of its bytes (gABI, "ELF Header" and "Program Header").
use Rattle.std.specs.Prelude.{ℕ, ◌*◌, nat_le, nat_lt, List, length, map, position, Option, Some, None, Result, Ok, Err, if◌then◌else◌}
use Rattle.kc_word.specs.declared.plain.Segment.{Segment}
use Rattle.kc_elf.specs.declared.fault.CoreFault.{CoreFault}
use Rattle.kc_elf.specs.declared.fault.CoreFault.TheVariants.{E1, E9, E10}
use Rattle.kc_elf.specs.declared.file_header.Table.{Table}
use Rattle.kc_elf.specs.declared.program_header.Kind.TheVariants.{Load, Note}
use Rattle.kc_elf.specs.declared.program_header.ProgramHeader.{ProgramHeader}
use Rattle.kc_elf.specs.FileHeader.{header_fault, header_count, table_at}
use Rattle.kc_elf.specs.Headers.{number, part, headers, is_bad, of_kind, byte_sum}
use Rattle.kc_elf.specs.Parts.{Parts}

infixl 10 ◌>>=◌
abbrev pub ◌>>=◌ : {A B : Type 0} → Result A CoreFault → (A → Result B CoreFault) → Result B CoreFault
(Ok x) >>= f = f x
(Err e) >>= f = Err e

-- a fault, or else what follows
abbrev pub unless : {A : Type 0} → Option CoreFault → Result A CoreFault → Result A CoreFault
unless None r = r
unless (Some fault) r = Err fault

-- where the program headers stand in a file of this size, by the file header
unfoldable pub table_by : (most : ℕ) → List ℕ → ℕ → List ℕ → Result Table CoreFault
table_by most header size bytes = do
  count ← header_count header size bytes
  table_at most (number 8 header 32) count size

-- where they stand, by the first 64 bytes, which are the file header
unfoldable pub table_of : (most : ℕ) → ℕ → List ℕ → Result Table CoreFault
table_of most size bytes =
    if nat_lt size 64 then Err E1
    else unless (header_fault (part 0 64 bytes)) (table_by most (part 0 64 bytes) size bytes)

-- the program headers of a table
abbrev pub headers_of : Table → List ℕ → List ProgramHeader
headers_of table bytes = headers table.count (part table.offset (56 * table.count) bytes)

-- The segments of memory and those of notes. E9 has the index of the first program header that is out of
-- bounds, and E10 comes where the notes together have more than 16 MiB.
abbrev pub split_by : Option ℕ → List ProgramHeader → Result (List Segment × List Segment) CoreFault
split_by (Some index) hs = Err (E9 index)
split_by None hs =
    if nat_le (byte_sum (of_kind Note hs)) 16777216 then Ok (of_kind Load hs, of_kind Note hs)
    else Err E10

-- the same in a file of this size
unfoldable pub split_of : ℕ → List ProgramHeader → Result (List Segment × List Segment) CoreFault
split_of size hs = split_by (position (is_bad size) hs) hs

-- the file's bytes of each segment
abbrev pub parts_of : List Segment → List ℕ → List (List ℕ)
parts_of ss bytes = map (λ (s : Segment). part s.offset s.filesz bytes) ss

-- what a file of this size holds, or its first fault
abbrev pub core_of : (most : ℕ) → ℕ → List ℕ → Result Parts CoreFault
core_of most size bytes = do
  table ← table_of most size bytes
  both ← split_of size (headers_of table bytes)
  Ok (record { segments = both.0; notes = parts_of both.1 bytes })

-- what a core file holds, or its first fault, where at most so many program headers are allowed
abbrev pub core : (most : ℕ) → List ℕ → Result Parts CoreFault
core most bytes = core_of most (length bytes) bytes
