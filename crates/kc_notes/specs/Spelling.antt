-- How notes are spelled in a part (gABI, "Note Section").
use Rattle.std.specs.Prelude.{◌≡◌, ℕ, zero, suc, ◌+◌, ◌<◌, ◌≤◌, ◌⊎◌, ◌==◌, List, length, take, drop, Option, Some, None, Result, Ok, Err}
use Rattle.std.specs.List.{before_first}
use Rattle.kc_elf.specs.Headers.{number}
use Rattle.kc_notes.specs.Notes.{padded, vmcoreinfo_name}

-- The bytes at a place of a part are a note of this name, descriptor and type: a header of 12 bytes with the
-- two sizes and the type, the name, and behind its padding the descriptor.
pub record IsNote (bytes : List ℕ) (place : ℕ) (name descriptor : List ℕ) (kind : ℕ) : Type 0 where
  pub header : place + 12 ≤ length bytes
  pub name_size : number 4 bytes place ≡ length name
  pub descriptor_size : number 4 bytes (place + 4) ≡ length descriptor
  pub type_is : number 4 bytes (place + 8) ≡ kind
  pub name_is : take (length name) (drop (place + 12) bytes) ≡ name
  pub descriptor_is : take (length descriptor) (drop (place + 12 + padded (length name)) bytes) ≡ descriptor

-- From one place to another stand so many notes, and none of them is VMCOREINFO.
abbrev pub LeadsTo : ℕ → List ℕ → ℕ → ℕ → Type 0
LeadsTo zero bytes place last = place ≡ last
LeadsTo (suc count) bytes place last =
    (name : List ℕ) × (descriptor : List ℕ) × (kind : ℕ) × IsNote bytes place name descriptor kind
    × ((kind ≡ 0) × (name ≡ vmcoreinfo_name) → ⊥)
    × LeadsTo count bytes (place + 12 + padded (length name) + padded (length descriptor)) last

-- A part ends at a place: fewer than 12 bytes are left, or a header of zeros stands there.
abbrev pub EndsAt : List ℕ → ℕ → Type 0
EndsAt bytes place =
    (length bytes < place + 12)
    ⊎ ((number 4 bytes place ≡ 0) × (number 4 bytes (place + 4) ≡ 0) × (number 4 bytes (place + 8) ≡ 0))

-- The name, or a descriptor that isn't empty, passes the part's end.
abbrev pub BreaksAt : List ℕ → ℕ → Type 0
BreaksAt bytes place =
    (place + 12 ≤ length bytes)
    × ((length bytes < place + 12 + number 4 bytes place)
    ⊎ ((0 < number 4 bytes (place + 4))
    × (length bytes < place + 12 + padded (number 4 bytes place) + number 4 bytes (place + 4))))

-- VMCOREINFO stands at a place, and has this text.
abbrev pub HasTextAt : List ℕ → ℕ → List ℕ → Type 0
HasTextAt bytes place text =
    (descriptor : List ℕ) × IsNote bytes place vmcoreinfo_name descriptor 0
    × (text ≡ before_first (λ c. c == 0) descriptor)

-- what an answer says of the place where the search of a part stopped
abbrev pub StopsAt : List ℕ → ℕ → Result (Option (List ℕ)) ℕ → Type 0
StopsAt bytes place (Ok None) = EndsAt bytes place
StopsAt bytes place (Ok (Some text)) = HasTextAt bytes place text
StopsAt bytes place (Err broken) = (broken ≡ place) × BreaksAt bytes place
