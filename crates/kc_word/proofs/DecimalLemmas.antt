-- One step of reading decimal digits.
use Rattle.std.proofs.Common.{◌≡◌, ℕ, suc, ◌+◌, ◌*◌, ◌^◌, ◌<◌, ◌≤◌, List, [], ◌∷◌, length, drop, Some, None, refl, sym, ap, ◌∙◌, arith, get_or, add-one, lit<, drop-cons}
use Rattle.std.proofs.Math.Nat.{pow-le-pow_right}
use Rattle.std.proofs.Math.ListN.{drop_of_length-le}
use Rattle.kc_word.specs.Decimal.{decimal_from, decimal_value}

decimal_from-cons : (n c d : ℕ) (cs : List ℕ) → decimal_value c ≡ Some d → decimal_from n (c ∷ cs) ≡ decimal_from (10 * n + d) cs
unfolding decimal_from
decimal_from-cons n c d cs is = rw is

decimal_from-bad : (n c : ℕ) (cs : List ℕ) → decimal_value c ≡ None → decimal_from n (c ∷ cs) ≡ None
unfolding decimal_from
decimal_from-bad n c cs is = rw is

decimal_from-nil : (n : ℕ) → decimal_from n [] ≡ Some n
unfolding decimal_from
decimal_from-nil n = refl

pow_step : (k : ℕ) → 10 ^ suc k ≡ 10 * 10 ^ k
pow_step k = grind arith

-- a digit more fits 64 bits
pub digit_fits : (i n d : ℕ) → i < 19 → n < 10 ^ i → d < 10 → 10 * n + d < 10 ^ (i + 1)
digit_fits i n d more small digit = let step : 10 ^ (i + 1) ≡ 10 * 10 ^ i = rw add-one (pow_step i) in omega arith

pub power_fits : (i : ℕ) → i ≤ 19 → 10 ^ i ≤ 10 ^ 19
power_fits i within = pow-le-pow_right {n = 10} (lit< tt) within

-- one digit read
pub reads_digit : (ds : List ℕ) (i n d : ℕ) → i < length ds → decimal_value (get_or ds i 0) ≡ Some d → decimal_from (10 * n + d) (drop (i + 1) ds) ≡ decimal_from n (drop i ds)
reads_digit ds i n d within is =
    let next : suc i ≡ i + 1 = omega arith in
    rw (drop-cons ds i 0 within) (sym (decimal_from-cons n (get_or ds i 0) d (drop (suc i) ds) is ∙ ap (λ j. decimal_from (10 * n + d) (drop j ds)) next))

pub reads_bad : (ds : List ℕ) (i n : ℕ) → i < length ds → decimal_value (get_or ds i 0) ≡ None → decimal_from n (drop i ds) ≡ None
reads_bad ds i n within is = rw (drop-cons ds i 0 within) (decimal_from-bad n (get_or ds i 0) (drop (suc i) ds) is)

pub reads_none : (ds : List ℕ) (i n : ℕ) → length ds ≤ i → decimal_from n (drop i ds) ≡ Some n
reads_none ds i n past = ap (decimal_from n) (drop_of_length-le ds past) ∙ decimal_from-nil n
