-- What the definitions of words say, in the words of the field.
use Rattle.std.specs.Prelude.{◌≡◌, ℕ, ◌+◌, ◌-◌, ◌*◌, ◌%◌, ◌/◌, ◌^◌, ◌<◌, ◌≤◌, ℤ, pos, Bool, true, nat_eq, Some, None, Ok, slice_get, List, drop}
use Rattle.std.specs.Int.{bit_at, int_rem_euclid}
use Rattle.std.specs.Int.RustNames.{unsigned_abs}
use Rattle.std.specs.List.{All}
use Rattle.std.specs.Set.{is_member}
use Rattle.byteorder.specs.Endian.{little_number}
use Rattle.kc_word.specs.declared.plain.Segment.{Segment}
use Rattle.kc_word.specs.declared.plain.Tail.TheVariants.{Zero}
use Rattle.kc_memory.specs.declared.words.Origin.TheVariants.{File, Tail}
use Rattle.kc_memory.specs.declared.words.PWord.{PWord}
use Rattle.kc_memory.specs.declared.words.VWord.{VWord}
use Rattle.kc_memory.specs.Image.{Physical, Image, pword}
use Rattle.kc_memory.specs.Held.{held}
use Rattle.kc_memory.specs.Translation.{xlate, vword}
use Rattle.kc_memory.specs.Places.{AllStandIn, places_of}
use Rattle.kc_memory.specs.Bits.{Number, bits, first_bit, word_of, InBits, number_places}

-- the segment at this place of the table holds the eight bytes from pa on
pub record HoldsAt (segments : List Segment) (pa i : ℕ) (s : Segment) : Type 0 where
  pub stands : slice_get segments i ≡ Some s
  pub begins : s.paddr ≤ pa
  pub ends : pa + 8 ≤ s.paddr + s.filesz

-- and no segment before it does
pub record HoldsFirst (segments : List Segment) (pa i : ℕ) (s : Segment) : Type 0 where
  pub here : HoldsAt segments pa i s
  pub none_before : (j : ℕ) (t : Segment) → j < i → HoldsAt segments pa j t → ⊥

-- a word that comes from the file is the eight file bytes at its offset, which the first segment that holds them has
abbrev pub WordsStandFirst : Type 0
WordsStandFirst =
    (physical : Physical) (pa value offset : ℕ) → pword physical pa ≡ Some (record { value = value; off = File offset })
    → (i : ℕ) × (s : Segment) × HoldsFirst physical.segments pa i s
    × (offset ≡ s.offset + (pa - s.paddr)) × (value ≡ little_number 8 (drop offset physical.bytes))

-- the tail of the segment at this place of the table has the eight bytes from pa on: its memory does, after its file
-- bytes
pub record TailAt (segments : List Segment) (pa i : ℕ) (s : Segment) : Type 0 where
  pub stands : slice_get segments i ≡ Some s
  pub begins : s.paddr + s.filesz ≤ pa
  pub ends : pa + 8 ≤ s.paddr + s.memsz

-- a word that comes from a tail is 0, where tails read as zero: some segment's tail has it, and no segment's file bytes
-- hold it
abbrev pub TailsAreZero : Type 0
TailsAreZero =
    (physical : Physical) (pa value : ℕ) → pword physical pa ≡ Some (record { value = value; off = Tail })
    → (value ≡ 0) × (physical.tail ≡ Zero) × ((i : ℕ) (s : Segment) → HoldsAt physical.segments pa i s → ⊥)
    × (i : ℕ) × (s : Segment) × TailAt physical.segments pa i s

-- where a word is absent, no segment holds its eight bytes, and where tails read as zero, none has them in its tail
abbrev pub AbsentWhereNone : Type 0
AbsentWhereNone =
    (physical : Physical) (pa : ℕ) → pword physical pa ≡ None
    → ((i : ℕ) (s : Segment) → HoldsAt physical.segments pa i s → ⊥)
    × (physical.tail ≡ Zero → (i : ℕ) (s : Segment) → TailAt physical.segments pa i s → ⊥)

-- a word that is found at a virtual address is one that the dump holds
abbrev pub FoundIsHeld : Type 0
FoundIsHeld =
    (image : Image) (va : ℕ) (w : VWord) → vword image va ≡ Ok w → is_member nat_eq (held image.physical) w.pa ≡ true

-- a page moves whole, from any table: an address keeps its low 12 bits, and another address of its page goes where
-- it goes, but for the low 12 bits
abbrev pub PagesMoveWhole : Type 0
PagesMoveWhole =
    (physical : Physical) (mask level table va pa : ℕ) → 1 ≤ level → xlate physical mask va level table ≡ Ok pa
    → (pa % 4096 ≡ va % 4096)
    × ((other : ℕ) → other / 4096 ≡ va / 4096 → xlate physical mask other level table ≡ Ok (pa / 4096 * 4096 + other % 4096))

-- what an answer shows is true of the dump
abbrev pub PlacesStand : Type 0
PlacesStand = (image : Image) (va : ℕ) → AllStandIn image (places_of (vword image va))

-- what a number shows is true of the dump, and what a stop shows in its place
abbrev pub NumbersStand : Type 0
NumbersStand =
    (image : Image) (at bit width : ℕ) (signed : Bool) → AllStandIn image (number_places (bits image at bit width signed))

-- so many bits hold the number
abbrev pub NumbersFit : Type 0
NumbersFit =
    (image : Image) (at bit width : ℕ) (signed : Bool) (number : Number) → 1 ≤ width
    → bits image at bit width signed ≡ Ok number → InBits signed width number.value

-- the pattern of a number in so many bits: the number modulo 2^width
abbrev pub pattern : ℕ → ℤ → ℕ
pattern width number = unsigned_abs (int_rem_euclid number (pos (2 ^ width)))

-- the bits of a number are those of memory: its bit i is i after the first one, in the word that holds it
abbrev pub BitsAreOfMemory : Type 0
BitsAreOfMemory =
    (image : Image) (at bit width i : ℕ) (signed : Bool) (number : Number) (word : VWord)
    → All (λ b. b < 256) image.physical.bytes → width ≤ 64 → i < width
    → bits image at bit width signed ≡ Ok number
    → vword image (word_of ((first_bit at bit + i) % 2 ^ 67)) ≡ Ok word
    → bit_at (pattern width number.value) i ≡ bit_at word.value ((first_bit at bit + i) % 64)
