-- A word with some bits replaced is a word.
use Rattle.std.proofs.Common.{◌≡◌, ℕ, ◌+◌, ◌-◌, ◌*◌, ◌/◌, ◌%◌, ◌^◌, ◌<◌, ◌≤◌, ◌∙◌, sym, ap, arith}
use Rattle.std.proofs.Math.Nat.{div-lt_iff_lt-mul, mod-eq_of_lt, mul-le-mul_right, pow-le-pow_right}
use Rattle.std.proofs.lemmas.Nat.{mod_below, pow-add, pow_pos}

-- a row of pieces is at most as long as all of them
piece : (i k r : ℕ) → i < k → i * r + r ≤ k * r
piece i k r below = let more : (i + 1) * r ≤ k * r = mul-le-mul_right r (omega (arith, below)) in grind (arith, more)

pub of_pieces : (a b c p q r k m : ℕ) → a < p → b < q → c < k → q * p ≡ r → k * r ≡ m → a + b * p + c * r < m
of_pieces a b c p q r k m low bits high same whole =
    let inner : b * p + p ≤ q * p = piece b q p bits in
    let outer : c * r + r ≤ k * r = piece c k r high in
    omega (arith, inner, outer, low, same, whole)

-- a power that a 128-bit word has
pub shifted : (n : ℕ) → n ≤ 64 → 1 * 2 ^ n % 2 ^ 128 ≡ 2 ^ n
shifted n few =
    let below : 2 ^ n ≤ 2 ^ 64 = pow-le-pow_right (omega arith) few in
    let one : 1 * 2 ^ n ≡ 2 ^ n = omega arith in
    mod-eq_of_lt (omega (arith, below)) ∙ one

pub with_bits_fit : (f w n word : ℕ) → f + w ≤ 64 → word < 2 ^ 64 → word % 2 ^ f + n % 2 ^ w * 2 ^ f + word / 2 ^ (f + w) * 2 ^ (f + w) < 2 ^ 64
with_bits_fit f w n word few small =
    let word_long : 64 - (f + w) + (f + w) ≡ 64 = omega (arith, few) in
    let turned : w + f ≡ f + w = omega arith in
    let all : 2 ^ (64 - (f + w)) * 2 ^ (f + w) ≡ 2 ^ 64 = sym (pow-add 2 (64 - (f + w)) (f + w)) ∙ ap (λ k. 2 ^ k) word_long in
    let both : 2 ^ w * 2 ^ f ≡ 2 ^ (f + w) = sym (pow-add 2 w f) ∙ ap (λ k. 2 ^ k) turned in
    of_pieces (word % 2 ^ f) (n % 2 ^ w) (word / 2 ^ (f + w)) (2 ^ f) (2 ^ w) (2 ^ (f + w)) (2 ^ (64 - (f + w))) (2 ^ 64)
    (mod_below word (2 ^ f) (pow_pos f)) (mod_below n (2 ^ w) (pow_pos w)) ((div-lt_iff_lt-mul (pow_pos (f + w))).1 (rw all small)) both all
