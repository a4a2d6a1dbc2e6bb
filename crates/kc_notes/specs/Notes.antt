-- Notes (gABI, "Note Section").
use Rattle.std.specs.Prelude.{ℕ, zero, suc, ◌+◌, ◌*◌, ◌/◌, min, Bool, not, ◌&&◌, ◌==◌, nat_lt, List, [], ◌∷◌, ◌++◌, length, codes, Option, Some, None, Result, Ok, Err, if◌then◌else◌}
use Rattle.std.specs.List.{before_first}
use Rattle.std.specs.Str.{bytes_eq}
use Rattle.kc_elf.specs.Headers.{number, part}
use Rattle.kc_notes.specs.declared.fault.NoteFault.{NoteFault}
use Rattle.kc_notes.specs.declared.fault.NoteFault.TheVariants.{V1, V2}
use Rattle.kc_notes.specs.declared.note.Note.{Note}
use Rattle.kc_notes.specs.declared.note.Step.{Step}
use Rattle.kc_notes.specs.declared.note.Step.TheVariants.{End, Broken, Whole}

-- how many bytes these are with their padding to a multiple of 4
abbrev pub padded : ℕ → ℕ
padded count = (count + 3) / 4 * 4

-- The note at a place of a part of this size, by its header: the size of the name, the size of the
-- descriptor, the type. A part ends at a header of zeros. The name stands behind the header, and the
-- descriptor behind the name's padding. Padding that passes the end is as long as the part.
unfoldable pub note_by : ℕ → ℕ → ℕ → ℕ → ℕ → Step
note_by size place name_size descriptor_size kind =
    if (name_size == 0) && (descriptor_size == 0) && (kind == 0) then End
    else (if nat_lt size (place + 12 + name_size) then Broken
    else (if not (descriptor_size == 0) && nat_lt size (place + 12 + padded name_size + descriptor_size) then Broken
    else Whole (record {
      kind = kind;
      name = place + 12;
      name_size = name_size;
      descriptor = min size (place + 12 + padded name_size);
      descriptor_size = descriptor_size;
    })))

-- the note at a place of a part; the part ends where fewer than the 12 bytes of a header are left
abbrev pub note_at : List ℕ → ℕ → Step
note_at bytes place =
    if nat_lt (length bytes) (place + 12) then End
    else note_by (length bytes) place (number 4 bytes place) (number 4 bytes (place + 4)) (number 4 bytes (place + 8))

-- the place behind a note and its padding
abbrev pub note_end : ℕ → Note → ℕ
note_end size note = min size (note.descriptor + padded note.descriptor_size)

-- the name of the note that the kernel writes its values into, with its NUL
abbrev pub vmcoreinfo_name : List ℕ
vmcoreinfo_name = codes "VMCOREINFO" ++ 0 ∷ []

-- the note is the kernel's VMCOREINFO
abbrev pub is_vmcoreinfo : List ℕ → Note → Bool
is_vmcoreinfo bytes note = (note.kind == 0) && bytes_eq (part note.name note.name_size bytes) vmcoreinfo_name

-- a note's text: its descriptor up to the first NUL
abbrev pub note_text : List ℕ → Note → List ℕ
note_text bytes note = before_first (λ c. c == 0) (part note.descriptor note.descriptor_size bytes)

-- what a note says to the search, and what is found behind it
abbrev pub on_step : List ℕ → ℕ → Step → (ℕ → Result (Option (List ℕ)) ℕ) → Result (Option (List ℕ)) ℕ
on_step bytes place End behind = Ok None
on_step bytes place Broken behind = Err place
on_step bytes place (Whole note) behind =
    if is_vmcoreinfo bytes note then Ok (Some (note_text bytes note))
    else behind (note_end (length bytes) note)

-- the text of the first VMCOREINFO among so many notes from a place on, or the place of a broken note
unfoldable pub search_from : ℕ → List ℕ → ℕ → Result (Option (List ℕ)) ℕ
search_from zero bytes place = Ok None
search_from (suc count) bytes place = on_step bytes place (note_at bytes place) (λ next. search_from count bytes next)

-- the text of a part's first VMCOREINFO; a part has fewer notes than bytes
abbrev pub part_text : List ℕ → Result (Option (List ℕ)) ℕ
part_text bytes = search_from (length bytes) bytes 0

-- what a part says, and what the parts behind it say
abbrev pub on_part : ℕ → Result (Option (List ℕ)) ℕ → Result (List ℕ) NoteFault → Result (List ℕ) NoteFault
on_part index (Ok (Some text)) behind = Ok text
on_part index (Ok None) behind = behind
on_part index (Err place) behind = Err (V1 index place)

-- the text of the first VMCOREINFO in these parts, which are counted from an index on, or the first fault
abbrev pub text_from : ℕ → List (List ℕ) → Result (List ℕ) NoteFault
text_from index [] = Err V2
text_from index (bytes ∷ parts) = on_part index (part_text bytes) (text_from (index + 1) parts)

-- the text of VMCOREINFO in a file's parts of notes
abbrev pub text_in : List (List ℕ) → Result (List ℕ) NoteFault
text_in parts = text_from 0 parts
