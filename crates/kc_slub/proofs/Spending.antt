-- The words that the walk of a free list asks: two at each object at most.
use Rattle.std.proofs.Common.{◌≡◌, ℕ, ◌+◌, ◌*◌, ◌≤◌, arith}
use Rattle.std.proofs.Math.Nat.{mul-le-mul_left, mul-add}

pub two_spare : (most n old now : ℕ) → now ≤ old + most * (2 * n) → now ≤ old + most * (2 + 2 * n)
two_spare most n old now le =
    let fits : 2 * n ≤ 2 + 2 * n = omega arith in
    let more = mul-le-mul_left most fits in
    omega (arith, more, le)

pub two_more : (most n old before after : ℕ) → before ≤ old + most * (2 * n) → after ≤ before + 2 * most → after ≤ old + most * (2 * (n + 1))
two_more most n old before after le more =
    let all = mul-add most (2 * n) 2 in
    let same : 2 * (n + 1) ≡ 2 * n + 2 = omega arith in
    rw (same, all) (omega (arith, le, more))
