-- One reading after another, and one in place of another.
use Rattle.std.specs.Prelude.{ℕ, nat_le, if◌then◌else◌, List, length, Result, Ok, Err}

-- reading goes on where it can
abbrev pub and_then : {A B E : Type 0} → Result A E → (A → Result B E) → Result B E
and_then (Ok x) f = f x
and_then (Err e) f = Err e

-- the shorter of two rests: that of the reading that came further
abbrev pub shorter : List ℕ → List ℕ → List ℕ
shorter rest other = if nat_le (length rest) (length other) then rest else other

-- the first reading, or where it stops the second; where both stop, the one that came further
abbrev pub stopped_twice : {A : Type 0} → List ℕ → Result A (List ℕ) → Result A (List ℕ)
stopped_twice rest (Ok x) = Ok x
stopped_twice rest (Err other) = Err (shorter rest other)

abbrev pub or_else : {A : Type 0} → Result A (List ℕ) → Result A (List ℕ) → Result A (List ℕ)
or_else (Ok x) other = Ok x
or_else (Err rest) other = stopped_twice rest other
