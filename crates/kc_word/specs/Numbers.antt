-- Numbers in bytes.
use Rattle.std.specs.Prelude.{ℕ, ◌+◌, List, length, drop, Option, Some, None, nat_le, if◌then◌else◌}
use Rattle.byteorder.specs.Endian.{little_number}

-- the number of n bytes at a place, the lowest byte first, where the bytes reach so far
abbrev pub number_at : ℕ → List ℕ → ℕ → Option ℕ
number_at n bytes at = if nat_le (at + n) (length bytes) then Some (little_number n (drop at bytes)) else None
