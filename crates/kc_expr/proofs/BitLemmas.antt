-- The operators on bits of numbers with a sign, and how large they make a value.
use Rattle.std.proofs.Common.{◌≡◌, ℕ, suc, ◌+◌, ◌-◌, ◌^◌, ◌<◌, ◌≤◌, bit_and, bit_or, bit_xor, ℤ, pos, negsuc, to_z, of_z, false, ltb, ap, ◌∙◌, arith}
use Rattle.std.specs.Int.{w128}
use Rattle.std.proofs.lemmas.Bool.Decides.{nat_tests}
use Rattle.std.proofs.lemmas.Nat.{and-not, and_comm, and_le_l, and_le_r, or_lt, xor_lt}
use Rattle.std.proofs.lemmas.Int.{to_z_pos}
use lib.Bits.{or_add_and, xor_add_and}
use Rattle.kc_expr.specs.Values.{int_and, int_or, int_xor, size, without}

-- -1 - n in 128 bits
complement : ℕ → ℕ
complement n = 2 ^ 128 - 1 - n

to-pos : (n : ℕ) → n < 2 ^ 127 → to_z w128 n ≡ pos n
to-pos n p = to_z_pos w128 n p

to-negsuc : (n : ℕ) → n < 2 ^ 127 → to_z w128 (2 ^ 128 - 1 - n) ≡ negsuc n
to-negsuc n p =
    let high : ltb (2 ^ 128 - 1 - n) (2 ^ 127) ≡ false = grind (arith, nat_tests) in
    let back : 2 ^ 128 - suc (2 ^ 128 - 1 - n) ≡ n = omega arith in
    rw high (ap negsuc back)

and-below : (m n : ℕ) → m < 2 ^ 128 → n < 2 ^ 128 → bit_and (2 ^ 128 - 1 - m) n ≡ without n m
and-below m n p q =
    let e = and-not 128 m n p q in
    let f = and_comm m n in
    omega (arith, e, f)

and-both : (m n : ℕ) → m < 2 ^ 128 → n < 2 ^ 128 → bit_and (2 ^ 128 - 1 - m) (2 ^ 128 - 1 - n) ≡ 2 ^ 128 - 1 - bit_or m n
and-both m n p q =
    let e = and-not 128 m (2 ^ 128 - 1 - n) p (omega arith) in
    let f = and-not 128 n m q p in
    let g = and_comm m (2 ^ 128 - 1 - n) in
    let h = and_comm n m in
    omega (arith, e, f, g, h, or_add_and m n)

complement-of : (n : ℕ) → n < 2 ^ 127 → of_z w128 (negsuc n) ≡ 2 ^ 128 - 1 - n
complement-of n p = let e : 2 ^ 128 - suc n ≡ 2 ^ 128 - 1 - n = omega arith in e

abbrev Small : ℤ → Type 0
Small x = size x < 2 ^ 127

pub and-int : (x y : ℤ) → Small x → Small y → to_z w128 (bit_and (of_z w128 x) (of_z w128 y)) ≡ int_and x y
and-int (pos m) (pos n) p q = to-pos (bit_and m n) (let l = and_le_l m n in omega (arith, l))
and-int (pos m) (negsuc n) p q =
    let e : bit_and m (2 ^ 128 - suc n) ≡ without m n = ap (bit_and m) (complement-of n q) ∙ and_comm m (2 ^ 128 - 1 - n) ∙ and-below n m (omega arith) (omega arith) in
    rw e (to-pos (without m n) (omega arith))
and-int (negsuc m) (pos n) p q =
    let e : bit_and (2 ^ 128 - suc m) n ≡ without n m = ap (λ x. bit_and x n) (complement-of m p) ∙ and-below m n (omega arith) (omega arith) in
    rw e (to-pos (without n m) (omega arith))
and-int (negsuc m) (negsuc n) p q =
    let e : bit_and (2 ^ 128 - suc m) (2 ^ 128 - suc n) ≡ 2 ^ 128 - 1 - bit_or m n =
    ap (λ x. bit_and x (2 ^ 128 - suc n)) (complement-of m p) ∙ ap (bit_and (2 ^ 128 - 1 - m)) (complement-of n q) ∙ and-both m n (omega arith) (omega arith) in
    rw e (to-negsuc (bit_or m n) (or_lt 127 m n p q))

pub or-int : (x y : ℤ) → Small x → Small y → to_z w128 (bit_or (of_z w128 x) (of_z w128 y)) ≡ int_or x y
or-int (pos m) (pos n) p q = to-pos (bit_or m n) (or_lt 127 m n p q)
or-int (pos m) (negsuc n) p q =
    let a : bit_and m (2 ^ 128 - 1 - n) ≡ without m n = and_comm m (2 ^ 128 - 1 - n) ∙ and-below n m (omega arith) (omega arith) in
    let c = complement-of n q in
    let s = or_add_and m (2 ^ 128 - 1 - n) in
    let l = and_le_l m n in
    let r = and_le_r m n in
    let f = and_comm m n in
    let e : bit_or m (2 ^ 128 - suc n) ≡ 2 ^ 128 - 1 - without n m = ap (bit_or m) c ∙ omega (arith, a, s, l, r, f) in
    rw e (to-negsuc (without n m) (omega arith))
or-int (negsuc m) (pos n) p q =
    let a = and-below m n (omega arith) (omega arith) in
    let c = complement-of m p in
    let s = or_add_and (2 ^ 128 - 1 - m) n in
    let l = and_le_l m n in
    let r = and_le_r m n in
    let f = and_comm m n in
    let e : bit_or (2 ^ 128 - suc m) n ≡ 2 ^ 128 - 1 - without m n = ap (λ x. bit_or x n) c ∙ omega (arith, a, s, l, r, f) in
    rw e (to-negsuc (without m n) (omega arith))
or-int (negsuc m) (negsuc n) p q =
    let a = and-both m n (omega arith) (omega arith) in
    let s = or_add_and (2 ^ 128 - 1 - m) (2 ^ 128 - 1 - n) in
    let t = or_add_and m n in
    let u = or_lt 127 m n p q in
    let l = and_le_l m n in
    let e : bit_or (2 ^ 128 - suc m) (2 ^ 128 - suc n) ≡ 2 ^ 128 - 1 - bit_and m n =
    ap (λ x. bit_or x (2 ^ 128 - suc n)) (complement-of m p) ∙ ap (bit_or (2 ^ 128 - 1 - m)) (complement-of n q) ∙ omega (arith, a, s, t, u, l) in
    rw e (to-negsuc (bit_and m n) (omega (arith, l)))

pub xor-int : (x y : ℤ) → Small x → Small y → to_z w128 (bit_xor (of_z w128 x) (of_z w128 y)) ≡ int_xor x y
xor-int (pos m) (pos n) p q = to-pos (bit_xor m n) (xor_lt 127 m n p q)
xor-int (pos m) (negsuc n) p q =
    let a : bit_and m (2 ^ 128 - 1 - n) ≡ without m n = and_comm m (2 ^ 128 - 1 - n) ∙ and-below n m (omega arith) (omega arith) in
    let s = xor_add_and m (2 ^ 128 - 1 - n) in
    let t = xor_add_and m n in
    let l = and_le_l m n in
    let r = and_le_r m n in
    let e : bit_xor m (2 ^ 128 - suc n) ≡ 2 ^ 128 - 1 - bit_xor m n = ap (bit_xor m) (complement-of n q) ∙ omega (arith, a, s, t, l, r) in
    rw e (to-negsuc (bit_xor m n) (xor_lt 127 m n p q))
xor-int (negsuc m) (pos n) p q =
    let a = and-below m n (omega arith) (omega arith) in
    let s = xor_add_and (2 ^ 128 - 1 - m) n in
    let t = xor_add_and m n in
    let l = and_le_l m n in
    let r = and_le_r m n in
    let f = and_comm m n in
    let e : bit_xor (2 ^ 128 - suc m) n ≡ 2 ^ 128 - 1 - bit_xor m n = ap (λ x. bit_xor x n) (complement-of m p) ∙ omega (arith, a, s, t, l, r, f) in
    rw e (to-negsuc (bit_xor m n) (xor_lt 127 m n p q))
xor-int (negsuc m) (negsuc n) p q =
    let a = and-both m n (omega arith) (omega arith) in
    let s = xor_add_and (2 ^ 128 - 1 - m) (2 ^ 128 - 1 - n) in
    let t = xor_add_and m n in
    let u = or_add_and m n in
    let v = or_lt 127 m n p q in
    let e : bit_xor (2 ^ 128 - suc m) (2 ^ 128 - suc n) ≡ bit_xor m n =
    ap (λ x. bit_xor x (2 ^ 128 - suc n)) (complement-of m p) ∙ ap (bit_xor (2 ^ 128 - 1 - m)) (complement-of n q) ∙ omega (arith, a, s, t, u, v) in
    rw e (to-pos (bit_xor m n) (xor_lt 127 m n p q))

-- these operators make nothing larger than both operands together
pub and-size : (x y : ℤ) → size (int_and x y) ≤ size x + size y
and-size (pos m) (pos n) = let l = and_le_l m n in omega (arith, l)
and-size (pos m) (negsuc n) = omega arith
and-size (negsuc m) (pos n) = omega arith
and-size (negsuc m) (negsuc n) = let s = or_add_and m n in omega (arith, s)

pub or-size : (x y : ℤ) → size (int_or x y) ≤ size x + size y
or-size (pos m) (pos n) = let s = or_add_and m n in omega (arith, s)
or-size (pos m) (negsuc n) = omega arith
or-size (negsuc m) (pos n) = omega arith
or-size (negsuc m) (negsuc n) = let l = and_le_l m n in omega (arith, l)

pub xor-size : (x y : ℤ) → size (int_xor x y) ≤ size x + size y
xor-size (pos m) (pos n) = let s = xor_add_and m n in omega (arith, s)
xor-size (pos m) (negsuc n) = let s = xor_add_and m n in omega (arith, s)
xor-size (negsuc m) (pos n) = let s = xor_add_and m n in omega (arith, s)
xor-size (negsuc m) (negsuc n) = let s = xor_add_and m n in omega (arith, s)

-- a value of this size is kept in 128 bits
pub kept : (x y : ℤ) → size x < 2 ^ 64 → x ≡ y → to_z w128 (of_z w128 x) ≡ y
kept (pos n) y p e = to-pos n (omega arith) ∙ e
kept (negsuc n) y p e = ap (to_z w128) (complement-of n (omega arith)) ∙ to-negsuc n (omega arith) ∙ e
