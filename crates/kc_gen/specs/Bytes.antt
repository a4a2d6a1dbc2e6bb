-- Bytes one after another.
use Rattle.std.specs.Prelude.{ℕ, zero, suc, ◌-◌, ◌/◌, ◌%◌, List, [], ◌∷◌, ◌++◌, length, replicate}
use Rattle.kc_gen.specs.declared.bytes.Field.{Field}

-- a number of so many bytes, the lowest first
abbrev pub number_bytes : ℕ → ℕ → List ℕ
number_bytes zero n = []
number_bytes (suc width) n = n % 256 ∷ number_bytes width (n / 256)

-- a number of 64 bits
abbrev pub word_bytes : ℕ → List ℕ
word_bytes word = number_bytes 8 word

-- zeros from the end up to a place
abbrev pub padded : ℕ → List ℕ → List ℕ
padded at bytes = bytes ++ replicate (at - length bytes) 0

-- numbers at their places, in rising order: between them stand zeros
abbrev pub laid : List Field → List ℕ → List ℕ
laid [] bytes = bytes
laid (f ∷ fs) bytes = laid fs (padded f.at bytes ++ number_bytes f.width f.value)

-- what stands for the numbers below one, in order
abbrev pub each : ℕ → (ℕ → List ℕ) → List ℕ
each zero f = []
each (suc k) f = each k f ++ f k
