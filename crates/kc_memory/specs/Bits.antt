-- A whole number in virtual memory, bit by bit. Bit n of memory is bit n % 8 of the byte at address n / 8.
use Rattle.std.specs.Prelude.{◌≡◌, ◌≤◌, ℕ, ◌+◌, ◌-◌, ◌*◌, ◌/◌, ◌%◌, ◌^◌, ℤ, pos, ◌-ℤ◌, ◌≤ℤ◌, ◌<ℤ◌, Bool, true, false, ◌&&◌, nat_le, if◌then◌else◌, List, ◌∷◌, Option, Some, None, option_to_list, Result, Ok, Err, ◌⊎◌, ⊤}
use Rattle.kc_memory.specs.declared.space.Stop.{Stop}
use Rattle.kc_memory.specs.declared.space.Stop.TheVariants.{Miss, Fault}
use Rattle.kc_memory.specs.declared.words.VWord.{VWord}
use Rattle.kc_memory.specs.declared.words.Place.{Place}
use Rattle.kc_memory.specs.Stopped.{Stopped}
use Rattle.kc_memory.specs.Image.{Image}
use Rattle.kc_memory.specs.Translation.{and_then, vword}
use Rattle.kc_memory.specs.Places.{place_of, entry_places}

-- what was read: a number, and the places of the one or two words that hold it
pub record Number : Type 0 where
  pub value : ℤ
  pub first : Place
  pub second : Option Place

-- the first bit of a number: addresses wrap at 2^64 bytes
abbrev pub first_bit : ℕ → ℕ → ℕ
first_bit at bit = (at * 8 + bit) % 2 ^ 67

-- the address of the aligned word that holds a bit
abbrev pub word_of : ℕ → ℕ
word_of n = n / 64 * 8

-- the address of the word after a word: after the last one of memory comes the one at 0
abbrev pub next_word : ℕ → ℕ
next_word va = (va + 8) % 2 ^ 64

-- so many bits of a number, from one on
abbrev pub bits_from : ℕ → ℕ → ℕ → ℕ
bits_from from width n = n / 2 ^ from % 2 ^ width

-- the number of a pattern of these many bits: in two's complement where it is signed
abbrev pub number_of : Bool → ℕ → ℕ → ℤ
number_of signed width pattern =
    if signed && nat_le (2 ^ (width - 1)) pattern then pos pattern -ℤ pos (2 ^ width) else pos pattern

-- so many bits hold a number, in two's complement where it is signed
abbrev pub InBits : Bool → ℕ → ℤ → Type 0
InBits false width number = (pos 0 ≤ℤ number) × (number <ℤ pos (2 ^ width))
InBits true width number = ((pos 0 -ℤ pos (2 ^ (width - 1))) ≤ℤ number) × (number <ℤ pos (2 ^ (width - 1)))

-- the number in one word, from a bit of the word on
abbrev pub in_one : ℕ → ℕ → Bool → VWord → Number
in_one from width signed word = record {
  value = number_of signed width (bits_from from width word.value);
  first = place_of word;
  second = None;
}

-- the number in two words, from a bit of the lower one on
abbrev pub in_two : ℕ → ℕ → Bool → VWord → VWord → Number
in_two from width signed low high = record {
  value = number_of signed width (bits_from from width (low.value + 2 ^ 64 * high.value));
  first = place_of low;
  second = Some (place_of high);
}

-- the number whose lower word is this one: in it alone, or in the next one too
abbrev pub with_word : Image → ℕ → ℕ → Bool → VWord → Result Number Stopped
with_word image n width signed low =
    if nat_le (n % 64 + width) 64 then Ok (in_one (n % 64) width signed low)
    else and_then (vword image (next_word (word_of n))) (λ high. Ok (in_two (n % 64) width signed low high))

-- the number of so many bits from a bit of memory on
abbrev pub bits_at : Image → ℕ → ℕ → Bool → Result Number Stopped
bits_at image n width signed = and_then (vword image (word_of n)) (with_word image n width signed)

-- and from a bit on that is counted from an address
abbrev pub bits : Image → ℕ → ℕ → ℕ → Bool → Result Number Stopped
bits image at bit width signed = bits_at image (first_bit at bit) width signed

-- a miss speaks of this word or of the next one
abbrev pub StopsIn : {A : Type 0} → Result A Stop → ℕ → Type 0
StopsIn (Ok a) word = ⊤
StopsIn (Err (Miss s)) word = (s.va ≡ word) ⊎ (s.va ≡ next_word word)
StopsIn (Err Fault) word = ⊤

-- The steps of an answer, where a word takes so many at most. A number in one word and a miss of the first word
-- take one word's: no other is asked then.
abbrev pub StepsWithin : Result Number Stop → ℕ → ℕ → ℕ → ℕ → Type 0
StepsWithin (Ok number) word most before after = number.second ≡ None → after ≤ before + most
StepsWithin (Err (Miss s)) word most before after = s.va ≡ word → after ≤ before + most
StepsWithin (Err Fault) word most before after = ⊤

-- the places that a number shows, or a stop
abbrev pub number_places : Result Number Stopped → List Place
number_places (Ok number) = number.first ∷ option_to_list number.second
number_places (Err s) = entry_places s.pa s.entry
