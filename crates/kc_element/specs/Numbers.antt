-- The number that stands where the rule of a violation expects another.
use Rattle.std.specs.Prelude.{ℕ, ◌+◌, ◌-◌, ◌*◌, ◌/◌, ◌%◌, ◌^◌, bit_xor, count_ones, ◌&&◌, nat_eq, nat_le, nat_lt, if◌then◌else◌, List, [], ◌∷◌, Option, Some, None, option_and_then}
use Rattle.kc_memory.specs.declared.words.Place.{Place}
use Rattle.kc_found.specs.Violations.{Violation}
use Rattle.kc_kinds.specs.declared.kind.Kind.{Kind}
use Rattle.kc_element.specs.declared.number.FoundNumber.{FoundNumber}
use Rattle.kc_element.specs.declared.number.Spot.{Spot}
use Rattle.kc_element.specs.declared.number.Spot.TheVariants.{Word, Parent, Bits}
use Rattle.kc_element.specs.Kinds.{number_spot}

-- how many bits of the two numbers differ
abbrev pub differing : FoundNumber → ℕ
differing p = count_ones (bit_xor p.found p.expected)

-- the number in some bits from one of a word on, where the word has them all
abbrev pub bits_part : ℕ → ℕ → ℕ → ℕ → Option FoundNumber
bits_part from width expected word =
    if nat_lt from 64 && nat_le (from + width) 64 then Some (record { found = word / 2 ^ from % 2 ^ width; expected = expected % 2 ^ width })
    else None

-- the number that stands there, by the word
abbrev pub part_in : Spot → ℕ → ℕ → ℕ → Option FoundNumber
part_in Word at expected word = Some (record { found = word; expected = expected })
part_in Parent at expected word = Some (record { found = word / 4 * 4; expected = expected })
part_in (Bits bit width) at expected word = bits_part (at % 8 * 8 + bit) width expected word

-- the word at an address, where it alone is shown
abbrev pub word_shown : ℕ → Option ℕ → ℕ → Option ℕ
word_shown at None value = None
word_shown at (Some va) value = if nat_eq va (at - at % 8) then Some value else None

abbrev pub word_at : ℕ → List Place → Option ℕ
word_at at [] = None
word_at at (p ∷ []) = word_shown at p.va p.value
word_at at (p ∷ q ∷ ps) = None

-- what stands where a violation expects a number
abbrev pub part_of : Kind → Violation → Option FoundNumber
part_of kind v =
    option_and_then (λ spot. option_and_then (λ word. option_and_then (λ expected. part_in spot v.at expected word) v.expected) (word_at v.at v.places)) (number_spot kind v.rule)
