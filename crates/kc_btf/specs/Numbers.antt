-- Numbers of 32 bits in a file, the lowest byte first.
use Rattle.std.specs.Prelude.{ℕ, zero, suc, ◌+◌, List, [], ◌∷◌, drop}
use Rattle.byteorder.specs.Endian.{little_number}

-- the number at a byte place
unfoldable pub word : List ℕ → ℕ → ℕ
word bytes at = little_number 4 (drop at bytes)

-- n numbers from a byte place on
unfoldable pub words : ℕ → List ℕ → ℕ → List ℕ
words zero bytes at = []
words (suc n) bytes at = word bytes at ∷ words n bytes (at + 4)
