-- What stands before the pages of a plain core file (gABI, "ELF Header" and "Program Header").
use Rattle.std.specs.Prelude.{ℕ, ◌+◌, ◌-◌, ◌*◌, ◌/◌, ◌^◌, Bool, nat_le, List, [], ◌∷◌, ◌++◌, length, replicate, Option, Some, None, if◌then◌else◌}
use Rattle.kc_kdump.specs.declared.run.PageRun.{PageRun}
use Rattle.kc_plain.specs.declared.root.Root.{Root}
use Rattle.kc_plain.specs.declared.fields.Field.{Field}
use Rattle.kc_plain.specs.declared.fields.Field.TheVariants.{U16, U32, U64}
use Rattle.kc_plain.specs.Fields.{spelled}
use Rattle.kc_plain.specs.Root.{root_of}

abbrev pub root_count : Option Root → ℕ
root_count None = 0
root_count (Some root) = 1

-- how many program headers there are: one of the notes, one a run, and one of the top page table, where it is known
abbrev pub header_count : List PageRun → Option Root → ℕ
header_count runs root = 1 + length runs + root_count root

-- From 0xffff program headers on their number stands in a section header (gABI, "ELF Header", e_phnum).
abbrev pub is_extended : ℕ → Bool
is_extended count = nat_le 0xffff count

-- where the program headers end
abbrev pub table_end : ℕ → ℕ
table_end count = 64 + 56 * count

-- where the notes begin, after the section header if there is one
abbrev pub notes_at : ℕ → ℕ
notes_at count = table_end count + (if is_extended count then 64 else 0)

-- where the pages begin: after the notes, at a multiple of 4096
abbrev pub start : List PageRun → Option Root → List ℕ → ℕ
start runs root notes = (notes_at (header_count runs root) + length notes + 4095) / 4096 * 4096

-- e_ident: the magic number, ELFCLASS64, ELFDATA2LSB, EV_CURRENT, zeros; e_type ET_CORE; e_machine EM_X86_64; e_version; e_entry;
-- e_phoff; e_shoff; e_flags; e_ehsize; e_phentsize; e_phnum; e_shentsize; e_shnum; e_shstrndx
abbrev pub file_fields : ℕ → List Field
file_fields count =
    U32 0x464c457f ∷ U32 0x010102 ∷ U64 0 ∷ U16 4 ∷ U16 62 ∷ U32 1 ∷ U64 0
    ∷ U64 64 ∷ U64 (if is_extended count then table_end count else 0) ∷ U32 0 ∷ U16 64 ∷ U16 56
    ∷ U16 (if is_extended count then 0xffff else count) ∷ U16 (if is_extended count then 64 else 0)
    ∷ U16 (if is_extended count then 1 else 0) ∷ U16 0 ∷ []

-- a program header: p_type, p_flags, p_offset, p_vaddr, p_paddr, p_filesz, p_memsz, p_align
-- PT_NOTE
abbrev pub note_fields : ℕ → ℕ → List Field
note_fields offset size = U32 4 ∷ U32 0 ∷ U64 offset ∷ U64 0 ∷ U64 0 ∷ U64 size ∷ U64 size ∷ U64 4 ∷ []

-- PT_LOAD of a run whose pages begin at a file offset: what was left out of the dump is memory without bytes in the file. No virtual
-- address is known: 2^63 and a physical address is none of x86-64, since it isn't canonical.
abbrev pub load_fields : ℕ → PageRun → List Field
load_fields offset run =
    U32 1 ∷ U32 7 ∷ U64 offset ∷ U64 (2 ^ 63 + 4096 * run.first) ∷ U64 (4096 * run.first) ∷ U64 (4096 * run.dumped)
    ∷ U64 (4096 * (run.dumped + run.left)) ∷ U64 0 ∷ []

-- PT_LOAD of each run, the pages one after another
unfoldable pub load_headers : ℕ → List PageRun → List ℕ
load_headers offset [] = []
load_headers offset (run ∷ runs) = spelled (load_fields offset run) ++ load_headers (offset + 4096 * run.dumped) runs

-- PT_LOAD of the top page table, where the pages begin at a file offset: its page once more, under its virtual address. Who reads by
-- virtual addresses begins there.
abbrev pub root_fields : ℕ → Root → List Field
root_fields first root =
    U32 1 ∷ U32 7 ∷ U64 (first + 4096 * root.number) ∷ U64 root.address ∷ U64 root.physical ∷ U64 4096 ∷ U64 4096 ∷ U64 0 ∷ []

abbrev pub root_header : ℕ → Option Root → List ℕ
root_header first None = []
root_header first (Some root) = spelled (root_fields first root)

-- the section header: sh_name, sh_type, sh_flags, sh_addr, sh_offset, sh_size, sh_link, sh_info, sh_addralign, sh_entsize
abbrev pub section_fields : ℕ → List Field
section_fields count = U32 0 ∷ U32 0 ∷ U64 0 ∷ U64 0 ∷ U64 0 ∷ U64 0 ∷ U32 0 ∷ U32 count ∷ U64 0 ∷ U64 0 ∷ []

abbrev pub section_header : ℕ → List ℕ
section_header count = if is_extended count then spelled (section_fields count) else []

-- zeros up to a place
abbrev pub padded : ℕ → List ℕ → List ℕ
padded at bytes = bytes ++ replicate (at - length bytes) 0

-- the headers
unfoldable pub headers_of : List PageRun → Option Root → List ℕ → List ℕ
headers_of runs root notes =
    spelled (file_fields (header_count runs root)) ++ spelled (note_fields (notes_at (header_count runs root)) (length notes))
    ++ load_headers (start runs root notes) runs ++ root_header (start runs root notes) root
    ++ section_header (header_count runs root)

-- headers, notes, and zeros up to the pages
unfoldable pub head_by : List PageRun → Option Root → List ℕ → List ℕ
head_by runs root notes = padded (start runs root notes) (headers_of runs root notes ++ notes)

abbrev pub head_of : List PageRun → List ℕ → List ℕ
head_of runs notes = head_by runs (root_of runs notes) notes
