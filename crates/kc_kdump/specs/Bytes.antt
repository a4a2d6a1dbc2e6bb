-- Parts of a file, and numbers in them.
use Rattle.std.specs.Prelude.{ℕ, List, take, drop}
use Rattle.byteorder.specs.Endian.{little_number}

-- so many bytes from a place on
abbrev pub part : ℕ → ℕ → List ℕ → List ℕ
part place count bytes = take count (drop place bytes)

-- the number of these many bytes at a place, the lowest byte first
abbrev pub number : ℕ → List ℕ → ℕ → ℕ
number width bytes place = little_number width (drop place bytes)
