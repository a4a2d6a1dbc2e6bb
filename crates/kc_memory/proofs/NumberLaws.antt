-- What a number shows, and its bits.
use Rattle.std.proofs.Common.{◌≡◌, ℕ, zero, suc, ◌+◌, ◌-◌, ◌*◌, ◌/◌, ◌%◌, ◌^◌, ◌<◌, ◌≤◌, pos, ◌+ℤ◌, ◌-ℤ◌, ◌≤ℤ◌, ◌<ℤ◌, Bool, true, false, ◌&&◌, if◌then◌else◌, nat_le, nat_lt, List, [], ◌∷◌, drop, get_or, length, Option, Some, Result, Ok, Err, arith, lit<, mod-eq_of_lt, refl, sym, ap, ◌∙◌, subst}
use Rattle.std.specs.Int.{bit_at}
use Rattle.std.specs.List.{All}
use Rattle.byteorder.specs.Endian.{little_number}
use Rattle.std.proofs.lemmas.Int.{ints, int_rem_euclid_is}
use Rattle.std.proofs.lemmas.Nat.{shr-shr, shr_split, pow_pos, mod_below}
use Rattle.std.proofs.Math.Nat.{pow-suc}
use Rattle.std.specs.Int.RustNames.{unsigned_abs}
use Rattle.std.proofs.lemmas.Nat.Bits.{bit_at_cat_low, bit_at_cat_high}
use Rattle.std.proofs.lemmas.List.{get_or_past}
use Rattle.std.proofs.lemmas.List.Elements.{All-get_or, All-drop}
use Rattle.std.proofs.lemmas.Bool.Decides.{nat_tests}
use Rattle.kc_memory.specs.declared.words.Origin.{Origin}
use Rattle.kc_memory.specs.declared.words.Origin.TheVariants.{File, Tail}
use Rattle.kc_memory.specs.declared.words.VWord.{VWord}
use Rattle.kc_memory.specs.Stopped.{Stopped}
use Rattle.kc_memory.specs.Image.{Image, Physical, pword}
use Rattle.kc_memory.specs.Translation.{and_then, vword}
use Rattle.kc_memory.specs.Places.{AllStandIn, places_of, place_of}
use Rattle.kc_memory.specs.Bits.{Number, bits_from, first_bit, in_one, in_two, next_word, number_of, number_places, with_word, word_of, InBits}
use Rattle.kc_memory.specs.Laws.{NumbersStand, NumbersFit, BitsAreOfMemory, pattern}
use Rattle.kc_memory.proofs.PlaceLaws.{places_stand, word_stands}
use Rattle.kc_memory.proofs.WordLaws.{words_stand_first, tails_are_zero}

-- what the higher word shows
with_high : (image : Image) (n width : ℕ) (signed : Bool) (low : VWord) (r : Result VWord Stopped) → AllStandIn image (place_of low ∷ []) → AllStandIn image (places_of r) → AllStandIn image (number_places (and_then r (λ high. Ok (in_two (n % 64) width signed low high))))
with_high image n width signed low (Ok high) lower higher = (lower.0, (higher.0, tt))
with_high image n width signed low (Err s) lower higher = higher

with_low : (image : Image) (n width : ℕ) (signed b : Bool) (low : VWord) → AllStandIn image (place_of low ∷ []) → AllStandIn image (number_places (if b then Ok (in_one (n % 64) width signed low) else and_then (vword image (next_word (word_of n))) (λ high. Ok (in_two (n % 64) width signed low high))))
with_low image n width signed true low lower = (lower.0, tt)
with_low image n width signed false low lower = with_high image n width signed low (vword image (next_word (word_of n))) lower (places_stand image (next_word (word_of n)))

places_at : (image : Image) (n width : ℕ) (signed : Bool) (r : Result VWord Stopped) → AllStandIn image (places_of r) → AllStandIn image (number_places (and_then r (with_word image n width signed)))
places_at image n width signed (Ok low) there = with_low image n width signed (nat_le (n % 64 + width) 64) low there
places_at image n width signed (Err s) there = there

pub numbers_stand : NumbersStand
numbers_stand image at bit width signed =
    let n = first_bit at bit in
    places_at image n width signed (vword image (word_of n)) (places_stand image (word_of n))

-- a half and another half of what so many bits count
halves : (width : ℕ) → 1 ≤ width → 2 ^ width ≡ 2 ^ (width - 1) + 2 ^ (width - 1)
halves zero some = absurd (omega arith)
halves (suc k) some = let less : suc k - 1 ≡ k = omega arith in rw (less, pow-suc) (omega arith)

in_signed : (half whole p : ℕ) (b : Bool) → nat_le half p ≡ b → whole ≡ half + half → p < whole → ((pos 0 -ℤ pos half) ≤ℤ (if b then pos p -ℤ pos whole else pos p)) × ((if b then pos p -ℤ pos whole else pos p) <ℤ pos half)
in_signed half whole p true above twice below = let more : half ≤ p = grind (arith, nat_tests) in (omega (arith, ints), omega (arith, ints))
in_signed half whole p false above twice below = let less : p < half = grind (arith, nat_tests) in (omega (arith, ints), omega (arith, ints))

in_bits : (signed : Bool) (width p : ℕ) → 1 ≤ width → p < 2 ^ width → InBits signed width (number_of signed width p)
in_bits false width p some below = (omega (arith, ints), omega (arith, ints))
in_bits true width p some below = in_signed (2 ^ (width - 1)) (2 ^ width) p (nat_le (2 ^ (width - 1)) p) refl (halves width some) below

-- the pattern of a number is the pattern that it was made of
pattern_signed : (width p : ℕ) (b : Bool) → p < 2 ^ width → pattern width (if b then pos p -ℤ pos (2 ^ width) else pos p) ≡ p
pattern_signed width p true below =
    let none : 0 < 2 ^ width = pow_pos width in
    let back : (pos p -ℤ pos (2 ^ width)) +ℤ pos (1 * 2 ^ width) ≡ pos p = omega (arith, ints) in
    let rest = int_rem_euclid_is (pos p -ℤ pos (2 ^ width)) (pos (2 ^ width)) (2 ^ width) 1 p none refl back in
    ap unsigned_abs rest ∙ mod-eq_of_lt below
pattern_signed width p false below = mod-eq_of_lt below

pattern_is : (signed : Bool) (width p : ℕ) → p < 2 ^ width → pattern width (number_of signed width p) ≡ p
pattern_is signed width p below = pattern_signed width p (signed && nat_le (2 ^ (width - 1)) p) below

-- a bit of some bits of a number is a bit of the number
bit_of_bits : (from width x i : ℕ) → i < width → bit_at (bits_from from width x) i ≡ bit_at x (from + i)
bit_of_bits from width x i within =
    let y = x / 2 ^ from in
    let low : bit_at (y / 2 ^ width * 2 ^ width + y % 2 ^ width) i ≡ bit_at (y % 2 ^ width) i = bit_at_cat_low (y / 2 ^ width) width (y % 2 ^ width) i within in
    sym low ∙ ap (λ (m : ℕ). bit_at m i) (shr_split y width) ∙ ap (λ (m : ℕ). m % 2) (shr-shr x from i)

bit_of_low : (low high j : ℕ) → j < 64 → bit_at (low + 2 ^ 64 * high) j ≡ bit_at low j
bit_of_low low high j within =
    let turned : low + 2 ^ 64 * high ≡ high * 2 ^ 64 + low = omega arith in
    ap (λ (m : ℕ). bit_at m j) turned ∙ bit_at_cat_low high 64 low j within

bit_of_high : (low high j : ℕ) → low < 2 ^ 64 → 64 ≤ j → bit_at (low + 2 ^ 64 * high) j ≡ bit_at high (j - 64)
bit_of_high low high j small above =
    let turned : low + 2 ^ 64 * high ≡ high * 2 ^ 64 + low = omega arith in
    ap (λ (m : ℕ). bit_at m j) turned ∙ bit_at_cat_high high 64 low j small above

-- where a bit behind another one stands
record Stands (n i word bit : ℕ) : Type 0 where
  in_word : word_of ((n + i) % 2 ^ 67) ≡ word
  at_bit : (n + i) % 64 ≡ bit

same_word : (n i : ℕ) → n < 2 ^ 67 → n % 64 + i < 64 → Stands n i (word_of n) (n % 64 + i)
same_word n i small within = record { in_word = omega arith; at_bit = omega arith }

other_word : (n i : ℕ) → n < 2 ^ 67 → 64 ≤ n % 64 + i → i < 64 → Stands n i (next_word (word_of n)) (n % 64 + i - 64)
other_word n i small above within = record { in_word = omega arith; at_bit = omega arith }

-- a word of bytes is below 2^64
little_small : (xs : List ℕ) → ((i : ℕ) → get_or xs i 0 < 256) → little_number 8 xs < 2 ^ 64
little_small xs small = omega (arith, small 0, small 1, small 2, small 3, small 4, small 5, small 6, small 7)

byte_small : (xs : List ℕ) → All (λ b. b < 256) xs → (i : ℕ) → get_or xs i 0 < 256
byte_small xs all i = by_cases (nat_lt i (length xs)) refl
  where
    by_cases : (b : Bool) → nat_lt i (length xs) ≡ b → get_or xs i 0 < 256
    by_cases true within = All-get_or (λ b. b < 256) xs i 0 (grind (arith, nat_tests)) all
    by_cases false past = let behind : length xs ≤ i = grind (arith, nat_tests) in rw (get_or_past xs i 0 behind) (lit< tt)

number_small : (physical : Physical) (pa value : ℕ) (off : Origin) → All (λ b. b < 256) physical.bytes → pword physical pa ≡ Some (record { value = value; off = off }) → value < 2 ^ 64
number_small physical pa value (File offset) bytes is =
    let first = words_stand_first physical pa value offset is in
    let rest = drop offset physical.bytes in
    subst (λ (v : ℕ). v < 2 ^ 64) (sym first.4) (little_small rest (byte_small rest (All-drop (λ b. b < 256) offset physical.bytes bytes)))
number_small physical pa value Tail bytes is = subst (λ (v : ℕ). v < 2 ^ 64) (sym (tails_are_zero physical pa value is).0) (lit< tt)

word_small : (image : Image) (va : ℕ) (w : VWord) → All (λ b. b < 256) image.physical.bytes → vword image va ≡ Ok w → w.value < 2 ^ 64
word_small image va w bytes is = number_small image.physical w.pa w.value w.off bytes (word_stands image va w is).stands

-- the number in one word
made_of_one : (from width : ℕ) (signed : Bool) (low : VWord) (i : ℕ) → i < width → bit_at (pattern width (in_one from width signed low).value) i ≡ bit_at low.value (from + i)
made_of_one from width signed low i within =
    let p = bits_from from width low.value in
    ap (λ (m : ℕ). bit_at m i) (pattern_is signed width p (mod_below (low.value / 2 ^ from) (2 ^ width) (pow_pos width))) ∙ bit_of_bits from width low.value i within

made_of_two : (from width : ℕ) (signed : Bool) (low high : VWord) (i : ℕ) → i < width → bit_at (pattern width (in_two from width signed low high).value) i ≡ bit_at (low.value + 2 ^ 64 * high.value) (from + i)
made_of_two from width signed low high i within =
    let both = low.value + 2 ^ 64 * high.value in
    let p = bits_from from width both in
    ap (λ (m : ℕ). bit_at m i) (pattern_is signed width p (mod_below (both / 2 ^ from) (2 ^ width) (pow_pos width))) ∙ bit_of_bits from width both i within

-- bit i of this number is that of the word that holds it
Holds : Image → ℕ → ℕ → ℕ → Number → Type 0
Holds image n width i number = (word : VWord) → vword image (word_of ((n + i) % 2 ^ 67)) ≡ Ok word → bit_at (pattern width number.value) i ≡ bit_at word.value ((n + i) % 64)

-- it does, where it is this bit of this word
held : (image : Image) (n width i : ℕ) (number : Number) (va bit : ℕ) (w : VWord) → Stands n i va bit → vword image va ≡ Ok w → bit_at (pattern width number.value) i ≡ bit_at w.value bit → Holds image n width i number
unfolding Holds
held image n width i number va bit w stands there is word found =
    let moved = ap (vword image) stands.in_word in
    let same : w ≡ word = cc in
    is ∙ ap (λ (v : VWord). bit_at v.value bit) same ∙ ap (λ (j : ℕ). bit_at word.value j) (sym stands.at_bit)

one_holds : (image : Image) (n width i : ℕ) (signed : Bool) (low : VWord) → n < 2 ^ 67 → i < width → n % 64 + width ≤ 64 → vword image (word_of n) ≡ Ok low → Holds image n width i (in_one (n % 64) width signed low)
one_holds image n width i signed low small within ends there =
    held image n width i (in_one (n % 64) width signed low) (word_of n) (n % 64 + i) low (same_word n i small (omega arith)) there (made_of_one (n % 64) width signed low i within)

two_hold : (image : Image) (n width i : ℕ) (signed : Bool) (low high : VWord) → n < 2 ^ 67 → i < width → width ≤ 64 → low.value < 2 ^ 64 → vword image (word_of n) ≡ Ok low → vword image (next_word (word_of n)) ≡ Ok high → Holds image n width i (in_two (n % 64) width signed low high)
two_hold image n width i signed low high small within wide fits there_low there_high = by_place (nat_lt (n % 64 + i) 64) refl
  where
    made : bit_at (pattern width (in_two (n % 64) width signed low high).value) i ≡ bit_at (low.value + 2 ^ 64 * high.value) (n % 64 + i)
    made = made_of_two (n % 64) width signed low high i within

    by_place : (b : Bool) → nat_lt (n % 64 + i) 64 ≡ b → Holds image n width i (in_two (n % 64) width signed low high)
    by_place true lower =
        let below : n % 64 + i < 64 = grind (arith, nat_tests) in
        held image n width i (in_two (n % 64) width signed low high) (word_of n) (n % 64 + i) low (same_word n i small below) there_low (made ∙ bit_of_low low.value high.value (n % 64 + i) below)
    by_place false higher =
        let above : 64 ≤ n % 64 + i = grind (arith, nat_tests) in
        held image n width i (in_two (n % 64) width signed low high) (next_word (word_of n)) (n % 64 + i - 64) high (other_word n i small above (omega arith)) there_high (made ∙ bit_of_high low.value high.value (n % 64 + i) fits above)

-- what holds of each number in one word and in two holds of each that is read
record Read (image : Image) (n width : ℕ) (signed : Bool) (P : Number → Type 0) : Type 0 where
  one : (low : VWord) → vword image (word_of n) ≡ Ok low → n % 64 + width ≤ 64 → P (in_one (n % 64) width signed low)
  two : (low high : VWord) → vword image (word_of n) ≡ Ok low → vword image (next_word (word_of n)) ≡ Ok high → P (in_two (n % 64) width signed low high)

read_high : (image : Image) (n width : ℕ) (signed : Bool) (P : Number → Type 0) (low : VWord) (r : Result VWord Stopped) (number : Number) → Read image n width signed P → vword image (word_of n) ≡ Ok low → vword image (next_word (word_of n)) ≡ r → and_then r (λ high. Ok (in_two (n % 64) width signed low high)) ≡ Ok number → P number
read_high image n width signed P low (Ok high) number each there came is = let same : in_two (n % 64) width signed low high ≡ number = cc in subst P same (each.two low high there came)
read_high image n width signed P low (Err s) number each there came is = let none : ⊥ = cc in absurd none

read_low : (image : Image) (n width : ℕ) (signed : Bool) (P : Number → Type 0) (low : VWord) (b : Bool) (number : Number) → nat_le (n % 64 + width) 64 ≡ b → Read image n width signed P → vword image (word_of n) ≡ Ok low → (if b then Ok (in_one (n % 64) width signed low) else and_then (vword image (next_word (word_of n))) (λ high. Ok (in_two (n % 64) width signed low high))) ≡ Ok number → P number
read_low image n width signed P low true number ends each there is =
    let inside : n % 64 + width ≤ 64 = grind (arith, nat_tests) in
    let same : in_one (n % 64) width signed low ≡ number = cc in
    subst P same (each.one low there inside)
read_low image n width signed P low false number ends each there is = read_high image n width signed P low (vword image (next_word (word_of n))) number each there refl is

read_each : (image : Image) (n width : ℕ) (signed : Bool) (P : Number → Type 0) (r : Result VWord Stopped) (number : Number) → Read image n width signed P → vword image (word_of n) ≡ r → and_then r (with_word image n width signed) ≡ Ok number → P number
read_each image n width signed P (Ok low) number each came is = read_low image n width signed P low (nat_le (n % 64 + width) 64) number refl each came is
read_each image n width signed P (Err s) number each came is = let none : ⊥ = cc in absurd none

pub numbers_fit : NumbersFit
numbers_fit image at bit width signed number some is =
    let n = first_bit at bit in
    let fits : (x : ℕ) → InBits signed width (number_of signed width (bits_from (n % 64) width x)) = λ x. in_bits signed width (bits_from (n % 64) width x) some (mod_below (x / 2 ^ (n % 64)) (2 ^ width) (pow_pos width)) in
    read_each image n width signed (λ read. InBits signed width read.value) (vword image (word_of n)) number (record { one = λ low there ends. fits low.value; two = λ low high there next. fits (low.value + 2 ^ 64 * high.value) }) refl is

pub bits_are_of_memory : BitsAreOfMemory
unfolding Holds
bits_are_of_memory image at bit width i signed number word bytes wide within is found =
    let n = first_bit at bit in
    let small : n < 2 ^ 67 = mod_below (at * 8 + bit) (2 ^ 67) (pow_pos 67) in
    let holds = read_each image n width signed (Holds image n width i) (vword image (word_of n)) number (record { one = λ low there ends. one_holds image n width i signed low small within ends there; two = λ low high there next. two_hold image n width i signed low high small within wide (word_small image (word_of n) low bytes there) there next }) refl is in
    holds word found
