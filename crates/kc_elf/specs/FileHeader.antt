-- The file header (gABI, "ELF Header").
use Rattle.std.specs.Prelude.{ℕ, ◌+◌, ◌*◌, Bool, not, ◌&&◌, ◌||◌, ◌==◌, nat_le, nat_lt, List, slice_index, Option, Some, None, Result, Ok, Err, if◌then◌else◌}
use Rattle.kc_elf.specs.declared.fault.CoreFault.{CoreFault}
use Rattle.kc_elf.specs.declared.fault.CoreFault.TheVariants.{E2, E3, E4, E5, E6, E7, E8}
use Rattle.kc_elf.specs.declared.file_header.Table.{Table}
use Rattle.kc_elf.specs.Headers.{number, part}

-- 0x7f and ELF
abbrev pub is_elf : List ℕ → Bool
is_elf header =
    (slice_index header 0 == 0x7f) && (slice_index header 1 == 69) && (slice_index header 2 == 76)
    && (slice_index header 3 == 70)

-- EI_CLASS is ELFCLASS64, EI_DATA is ELFDATA2LSB, EI_VERSION is EV_CURRENT
abbrev pub is_plain : List ℕ → Bool
is_plain header =
    (slice_index header 4 == 2) && (slice_index header 5 == 1) && (slice_index header 6 == 1)

-- What is wrong with a header, in this order: e_type at byte 16 isn't ET_CORE, e_machine at 18 isn't
-- EM_X86_64, e_phentsize at 54 isn't 56.
unfoldable pub header_fault : List ℕ → Option CoreFault
header_fault header =
    if not (is_elf header) then Some E2
    else (if not (is_plain header) then Some E3
    else (if not (number 2 header 16 == 4) then Some E4
    else (if not (number 2 header 18 == 62) then Some E5
    else (if not (number 2 header 54 == 56) then Some E6
    else None))))

-- How many program headers a file has: e_phnum at byte 56; where that is 0xffff, sh_info at byte 44 of
-- the first section header, whose 64 bytes stand at e_shoff (gABI, "ELF Header", e_phnum).
abbrev pub header_count : List ℕ → ℕ → List ℕ → Result ℕ CoreFault
header_count header size bytes =
    if not (number 2 header 56 == 0xffff) then Ok (number 2 header 56)
    else (if nat_le (number 8 header 40 + 64) size
    then Ok (number 4 (part (number 8 header 40 + 44) 4 bytes) 0)
    else Err E7)

-- the table of so many program headers, each of 56 bytes, at an offset in a file of this size, where at most
-- `most` are allowed
abbrev pub table_at : (most : ℕ) → ℕ → ℕ → ℕ → Result Table CoreFault
table_at most offset count size =
    if (count == 0) || nat_lt most count then Err E8
    else (if nat_le (offset + 56 * count) size
    then Ok (record { offset = offset; count = count })
    else Err E7)
