-- What is shown of an address is true of the dump.
use Rattle.std.specs.Prelude.{◌≡◌, ℕ, ◌+◌, ◌-◌, ◌%◌, ◌≤◌, ◌⊎◌, List, [], ◌∷◌, drop, Some}
use Rattle.std.specs.List.{AllByRecursion, Contains}
use Rattle.byteorder.specs.Endian.{little_number}
use Rattle.kc_memory.specs.Places.{AllStandIn}
use Rattle.kc_sight.specs.Refs.Holding.{in_segments}
use Rattle.kc_sight.specs.declared.refs.place.FoundWord.{FoundWord}
use Rattle.kc_sight.specs.Refs.Writings.{Sought, writing}
use Rattle.kc_sight.specs.Sights.{places, sight}
use Rattle.kc_word.specs.declared.plain.Segment.{Segment}
use Rattle.kc_cause.specs.Explained.{explained_text}
use Rattle.kc_cause.specs.Laws.{WordsStand}
use Rattle.kc_cause.specs.Printed.{IsExplanation}
use Rattle.kc_why.specs.Searching.{sought_by}
use Rattle.kc_why.specs.Why.{Shown, Sees, Finds, Tells}

-- A word of a segment holds what is looked for: it stands whole in the segment's file bytes, at a physical address that is a multiple of 8,
-- with what the file has at the offset of that address.
pub record IsWritten (bytes : List ℕ) (sought : Sought) (f : FoundWord) (s : Segment) : Type 0 where
  pub aligned : f.place.pa % 8 ≡ 0
  pub after : s.paddr ≤ f.place.pa
  pub whole : f.place.pa + 8 ≤ s.paddr + s.filesz
  pub at : f.place.off ≡ s.offset + (f.place.pa - s.paddr)
  pub value : little_number 8 (drop f.place.off bytes) ≡ f.value
  pub holds : writing sought f.value f.place.pa ≡ Some f.writing

-- it is a word of one of the segments
abbrev pub IsWrittenIn : List ℕ → Sought → List Segment → FoundWord → Type 0
IsWrittenIn bytes sought [] f = ⊥
IsWrittenIn bytes sought (s ∷ others) f = IsWritten bytes sought f s ⊎ IsWrittenIn bytes sought others f

-- Each word that is shown of an address, as one that holds it, or of a violation, stands in its memory, or in its dump, at the place that is shown; and
-- what an explanation says of repairs holds.
abbrev pub Stand : Shown → Type 0
Stand (Sees l) = AllStandIn l.image (places (sight l.image l.rules l.address))
Stand (Finds s) = AllByRecursion (IsWrittenIn s.bytes (sought_by s.value s.keys) s.segments) (in_segments (sought_by s.value s.keys) s.bytes s.segments)
Stand (Tells e) = WordsStand e × IsExplanation e (explained_text e)

abbrev pub ShownStand : Type 0
ShownStand = (s : Shown) → Stand s

-- and each word that holds what is looked for is found
abbrev pub WrittenAreFound : Type 0
WrittenAreFound =
    (bytes : List ℕ) (sought : Sought) (segments : List Segment) (f : FoundWord) → IsWrittenIn bytes sought segments f → Contains (in_segments sought bytes segments) f
