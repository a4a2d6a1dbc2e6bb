-- The number of items that a text writes.
use Rattle.std.proofs.Common.{◌≡◌, ◌⊎◌, ◌&&◌, ℕ, zero, suc, ◌^◌, ◌<◌, ◌≤◌, ◌==◌, Bool, true, false, nat_le, List, [], ◌∷◌, length, Option, Some, None, option_and_then, refl, sym, inl, inr, arith}
use Rattle.std.proofs.lemmas.Bool.{le-leb}
use Rattle.std.proofs.lemmas.Bool.Decides.{leb_tells, nat_tests}
use Rattle.kc_word.specs.Decimal.{decimal_digits, decimal_from, decimal_number, negative, positive}
use Rattle.kc_app.specs.Selftest.{as_count, count_in, count_of}

decided : (b : Bool) → (b ≡ true) ⊎ (b ≡ false)
decided true = inl refl
decided false = inr refl

and_false : (b : Bool) → (b && false) ≡ false
and_false true = refl
and_false false = refl

past : (n : ℕ) → 100000 < n → nat_le n 100000 ≡ false
past n more = grind (arith, nat_tests)

too_many : (n : ℕ) → 100000 < n → as_count n ≡ None
too_many n more = rw (past n more, and_false (nat_le 1 n)) refl

-- without a sign
plus : (d : Option ℕ) → option_and_then count_of (option_and_then positive d) ≡ option_and_then as_count d
plus None = refl
plus (Some n) =
    elim (leb_tells (suc n) (2 ^ 63)) [
      | inl small ↦ rw small.0 refl
      | inr big ↦ rw big.0 (sym (too_many n (omega (arith, big.1))))
    ]

-- below zero there is no number of items
below_zero : (n : ℕ) → option_and_then count_of (negative n) ≡ None
below_zero zero = refl
below_zero (suc n) = elim (decided (nat_le (suc n) (2 ^ 63))) [ inl is ↦ rw (is, le-leb 1 (suc n) (omega arith)) refl | inr not ↦ rw not refl ]

minus : (d : Option ℕ) → option_and_then count_of (option_and_then negative d) ≡ None
minus None = refl
minus (Some n) = below_zero n

no_digit : (cs : List ℕ) → decimal_digits (45 ∷ cs) ≡ None
unfolding decimal_from
no_digit cs = elim (decided (nat_le 1 (suc (length cs)) && nat_le (suc (length cs)) 19)) [ inl is ↦ rw is refl | inr not ↦ rw not refl ]

digits : (text : List ℕ) → option_and_then count_of (decimal_number text) ≡ option_and_then as_count (decimal_digits text)
digits [] = refl
digits (c ∷ cs) =
    elim (decided (c == 45)) [
      | inl is ↦ let sign : c ≡ 45 = grind (arith, nat_tests, is) in rw (is, minus (decimal_digits cs), sign, no_digit cs) refl
      | inr not ↦ rw not (plus (decimal_digits (c ∷ cs)))
    ]

pub counted : (text : List ℕ) → length text ≤ 6 → option_and_then count_of (decimal_number text) ≡ count_in text
counted text few = rw (le-leb (length text) 6 few) (digits text)
