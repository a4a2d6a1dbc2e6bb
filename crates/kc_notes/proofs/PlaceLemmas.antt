-- What the first place of a byte says of the bytes before it and behind it.
use Rattle.std.proofs.Common.{◌≡◌, ℕ, ◌+◌, ◌<◌, ◌≤◌, Bool, List, length, take, drop, position, Some, None, ap, arith}
use Rattle.std.specs.List.{position_or_len, before_first, after_first}
use Rattle.std.proofs.lemmas.Bool.Decides.{nat_tests}
use Rattle.std.proofs.lemmas.List.{take_all}

pub at_place : (p : ℕ → Bool) (xs : List ℕ) (i : ℕ) → position p xs ≡ Some i → (position_or_len p xs ≡ i) × (i < length xs)
at_place p xs i is = grind (arith, nat_tests)

pub no_place : (p : ℕ → Bool) (xs : List ℕ) → position p xs ≡ None → length xs ≤ position_or_len p xs
no_place p xs is = grind (arith, nat_tests)

pub before_place : (p : ℕ → Bool) (xs : List ℕ) (i : ℕ) → position p xs ≡ Some i → before_first p xs ≡ take i xs
before_place p xs i is = ap (λ n. take n xs) ((at_place p xs i is).0)

pub after_place : (p : ℕ → Bool) (xs : List ℕ) (i : ℕ) → position p xs ≡ Some i → after_first p xs ≡ drop (i + 1) xs
after_place p xs i is = ap (λ n. drop (n + 1) xs) ((at_place p xs i is).0)

pub before_none : (p : ℕ → Bool) (xs : List ℕ) → position p xs ≡ None → before_first p xs ≡ xs
before_none p xs is = take_all (position_or_len p xs) xs (no_place p xs is)
