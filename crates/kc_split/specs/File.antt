-- A file of two sections, with a header of 24 bytes and nothing else.
use Rattle.std.specs.Prelude.{ℕ, List, [], ◌∷◌, length, ◌++◌}
use Rattle.std.specs.List.{flat_map}
use Rattle.byteorder.specs.Endian.{little_bytes}

-- the numbers of the header: the magic with the version and the flags, the header's length, and the place and
-- the length of the types and of the strings
abbrev pub header_numbers : ℕ → ℕ → List ℕ
header_numbers types strings = 0x1eb9f ∷ 24 ∷ 0 ∷ types ∷ types ∷ strings ∷ []

-- a header for sections of these lengths
abbrev pub header_bytes : ℕ → ℕ → List ℕ
header_bytes types strings = flat_map (little_bytes 4) (header_numbers types strings)

-- the types stand behind the header, and the strings behind them
abbrev pub file_of : List ℕ → List ℕ → List ℕ
file_of types strings = header_bytes (length types) (length strings) ++ (types ++ strings)
