-- What may have stood where a word stands.
use Rattle.std.specs.Prelude.{ℕ, ◌+◌, ◌*◌, ◌/◌, ◌%◌, ◌^◌, ◌==◌, nat_le, bit_xor, Bool, not, if◌then◌else◌, List, [], ◌∷◌, map, Option, Some, None}
use Rattle.std.specs.List.{filter, flat_map, range_with_len}
use Rattle.kc_memory.specs.declared.words.Origin.{Origin}
use Rattle.kc_memory.specs.declared.words.Origin.TheVariants.{File, Tail}
use Rattle.kc_memory.specs.declared.words.VWord.{VWord}
use Rattle.kc_memory.specs.Image.{Image}
use Rattle.kc_memory.specs.Translation.{vword}
use Rattle.kc_found.specs.Nodes.{readable}
use Rattle.kc_repair.specs.declared.suspect.change.Change.{Change}
use Rattle.kc_repair.specs.declared.suspect.change.How.{How}
use Rattle.kc_repair.specs.declared.suspect.change.How.TheVariants.{Number, Lowest, Each, Pointer, Counted}
use Rattle.kc_repair.specs.declared.suspect.suspect.Suspect.{Suspect}

-- a word is suspected where its bytes stand in the file and another number may have stood there
abbrev pub suspect_in : VWord → Origin → ℕ → List Suspect
suspect_in w (File off) value = if value == w.value then [] else record { va = w.va; pa = w.pa; off = off; now = w.value; value = value } ∷ []
suspect_in w Tail value = []

abbrev pub suspect_of : VWord → ℕ → List Suspect
suspect_of w value = suspect_in w w.off value

-- a word with one bit changed
abbrev pub flipped : ℕ → ℕ → ℕ
flipped word bit = bit_xor word (2 ^ bit)

-- a word with one of its lowest bits changed, for each of so many
unfoldable pub bits_below : ℕ → ℕ → List ℕ
bits_below word count = map (flipped word) (range_with_len 0 count)

-- a number is no value of an xarray, whose lowest bit is set. Source: the kernel's include/linux/xarray.h, `xa_mk_value`
abbrev pub is_no_value : ℕ → Bool
is_no_value n = n % 2 == 0

-- an entry with one bit changed: the third bit first, and the two lowest, which say what an entry is, at last
abbrev pub turned : ℕ → ℕ → ℕ
turned word i = flipped word ((i + 2) % 64)

-- the lower half of a word isn't zero
abbrev pub is_counted : ℕ → Bool
is_counted n = not (n % 2 ^ 32 == 0)

-- the first so many of some numbers, but for those that can't have stood there
unfoldable pub taken_below : (ℕ → Bool) → (ℕ → ℕ) → ℕ → List ℕ
taken_below may one count = filter may (map one (range_with_len 0 count))

-- the numbers that may have stood where a word stands: this one, the word with its lowest bit changed, or the word with one bit
-- changed, the lowest first; of an entry those that are no value, and of a number in the lower half of a word those that aren't zero
abbrev pub numbers : How → ℕ → List ℕ
numbers (Number n) word = n ∷ []
numbers Lowest word = flipped word 0 ∷ []
numbers Each word = bits_below word 64
numbers Pointer word = taken_below is_no_value (turned word) 64
numbers Counted word = taken_below is_counted (flipped word) 64

-- a word that may have held a number, where the number can have stood there
abbrev pub taken_if : Bool → VWord → ℕ → List Suspect
taken_if may w value = if may then suspect_of w value else []

-- what is suspected of a word, where it can be read
abbrev pub made_of : Option VWord → How → List Suspect
made_of None how = []
made_of (Some w) how = flat_map (suspect_of w) (numbers how w.value)

abbrev pub made : Image → Change → List Suspect
made image c = made_of (readable (vword image c.at)) c.how

-- a word with so many bits from one on replaced by those of a number
abbrev pub with_bits : ℕ → ℕ → ℕ → ℕ → ℕ
with_bits from width n word = word % 2 ^ from + n % 2 ^ width * 2 ^ from + word / 2 ^ (from + width) * 2 ^ (from + width)

-- the word at an address becomes a number
abbrev pub to : ℕ → ℕ → Change
to at n = record { at = at; how = Number n }

-- each single bit of it changes
abbrev pub each : ℕ → Change
each at = record { at = at; how = Each }

-- or where its lower half isn't zero then
abbrev pub each_count : ℕ → Change
each_count at = record { at = at; how = Counted }

-- or where it is then no value of an xarray
abbrev pub each_pointer : ℕ → Change
each_pointer at = record { at = at; how = Pointer }

-- a word gets the bits of a number, where it can be read
abbrev pub filled : ℕ → ℕ → ℕ → Option VWord → Option Change
filled from width n None = None
filled from width n (Some w) = Some (to w.va (with_bits from width n w.value))

-- so many bits, from a bit of the byte at an address on, become those of a number, where they lie in one word that can be read
abbrev pub field_from : Image → ℕ → ℕ → ℕ → ℕ → Option Change
field_from image word from width n = if nat_le (from + width) 64 then filled from width n (readable (vword image word)) else None

abbrev pub field_to : Image → ℕ → ℕ → ℕ → ℕ → Option Change
field_to image at bit width n = field_from image (at / 8 * 8) (at % 8 * 8 + bit) width n
