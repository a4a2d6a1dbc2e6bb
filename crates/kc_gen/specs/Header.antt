-- The dump: an ELF core file of the made memory.
use Rattle.std.specs.Prelude.{ℕ, List, [], ◌∷◌, ◌++◌, codes, length, Option}
use Rattle.kc_gen.specs.declared.bytes.Field.{Field}
use Rattle.kc_gen.specs.Bytes.{laid, padded}
use Rattle.kc_gen.specs.Items.{hurt_item}
use Rattle.kc_gen.specs.Memory.{memory}
use Rattle.kc_gen.specs.Texts.{note}

abbrev pub u16_at : ℕ → ℕ → Field
u16_at at value = record { at = at; width = 2; value = value }

abbrev pub u32_at : ℕ → ℕ → Field
u32_at at value = record { at = at; width = 4; value = value }

abbrev pub u64_at : ℕ → ℕ → Field
u64_at at value = record { at = at; width = 8; value = value }

-- The ELF header (gABI, "ELF Header"): the magic number, 64 bits, lowest byte first, version 1; e_type ET_CORE; e_machine
-- EM_X86_64; e_phoff; e_phentsize; e_phnum.
unfoldable pub elf_header : List Field
elf_header =
    u32_at 0 0x464c457f ∷ u32_at 4 0x010102 ∷ u16_at 16 4 ∷ u16_at 18 62 ∷ u64_at 32 64 ∷ u16_at 54 56 ∷ u16_at 56 2 ∷ []

-- The program headers (gABI, "Program Header"): PT_NOTE with p_offset and p_filesz, and PT_LOAD with p_offset, p_filesz and p_memsz.
abbrev pub program_headers : ℕ → List Field
program_headers size =
    u32_at 64 4 ∷ u64_at 72 0x1000 ∷ u64_at 96 160 ∷ u32_at 120 1 ∷ u64_at 128 0x2000 ∷ u64_at 152 size ∷ u64_at 160 size ∷ []

-- the note: namesz, descsz, the name, and the text at the next multiple of 4
unfoldable pub note_sizes : List Field
note_sizes = u32_at 0x1000 11 ∷ u32_at 0x1004 135 ∷ []

abbrev pub with_note : List ℕ → List ℕ
with_note bytes = padded 0x1018 (padded 0x100c (laid note_sizes bytes) ++ codes "VMCOREINFO") ++ note

-- what comes before a memory of a size in bytes
abbrev pub header : ℕ → List ℕ
header size = padded 0x2000 (with_note (laid (program_headers size) (laid elf_header [])))

-- the core file of a memory
abbrev pub core_file : List ℕ → List ℕ
core_file bytes = header (length bytes) ++ bytes

-- the dump of n items, of which one may be hurt
unfoldable pub dump : ℕ → Option ℕ → List ℕ
dump n hurt = core_file (memory n (hurt_item n hurt))
