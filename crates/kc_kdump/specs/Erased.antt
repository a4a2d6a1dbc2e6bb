-- What makedumpfile erased from a dump, in its own words: a text that an ELF dump has as a note after the others
-- (makedumpfile: erase_info.h, ERASEINFO_NOTE_NAME; makedumpfile.c, write_elf_eraseinfo; gABI, "Note Section").
use Rattle.std.specs.Prelude.{ℕ, ◌+◌, ◌-◌, ◌%◌, ◌==◌, List, [], ◌∷◌, ◌++◌, codes, length, take, if◌then◌else◌}
use Rattle.byteorder.specs.Endian.{little_bytes}

-- bytes, and zeros after them up to a multiple of 4
abbrev pub padded : List ℕ → List ℕ
padded bytes = bytes ++ take ((4 - length bytes % 4) % 4) (0 ∷ 0 ∷ 0 ∷ [])

-- the head of the note of so many bytes: n_namesz, n_descsz, n_type, and the name with its zero, which has 10 bytes, and two zeros more
abbrev pub erase_head : ℕ → List ℕ
erase_head size = little_bytes 4 10 ++ (little_bytes 4 size ++ (little_bytes 4 0 ++ (codes "ERASEINFO" ++ (0 ∷ 0 ∷ 0 ∷ []))))

-- the notes, and after them that of the erase info, where there is some
unfoldable pub joined : List ℕ → List ℕ → List ℕ
joined notes text = if length text == 0 then notes else padded (padded notes ++ (erase_head (length text) ++ text))

-- how many bytes these are
abbrev pub padded_size : ℕ → ℕ
padded_size size = size + (4 - size % 4) % 4

unfoldable pub joined_size : ℕ → ℕ → ℕ
joined_size notes text = if text == 0 then notes else padded_size (padded_size notes + 24 + text)
