-- What the search for VMCOREINFO says, in the words of the format.
use Rattle.std.specs.Prelude.{◌≡◌, ℕ, List, ◌∷◌, ◌++◌, All, Some, None, Ok}
use Rattle.kc_notes.specs.Notes.{part_text, text_in}
use Rattle.kc_notes.specs.Spelling.{LeadsTo, StopsAt}

-- From the part's first byte on stand whole notes, none of them VMCOREINFO, up to a place. There stands
-- VMCOREINFO, which has the text that is found, or a note that is broken, or the part ends.
abbrev pub SearchStops : Type 0
SearchStops = (bytes : List ℕ) → (count : ℕ) × (last : ℕ) × LeadsTo count bytes 0 last × StopsAt bytes last (part_text bytes)

-- The text that is found stands in some part, and the parts before it have none and no broken note.
abbrev pub FirstPartTells : Type 0
FirstPartTells =
    (parts : List (List ℕ)) (text : List ℕ) → text_in parts ≡ Ok text
    → (before : List (List ℕ)) × (bytes : List ℕ) × (behind : List (List ℕ)) × (parts ≡ before ++ bytes ∷ behind)
    × All (λ p. part_text p ≡ Ok None) before × (part_text bytes ≡ Ok (Some text))
