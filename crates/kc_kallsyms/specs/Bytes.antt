-- Bytes and numbers of the tables, and tokens. A word that can't be read is why there is none.
use Rattle.std.specs.Prelude.{ℕ, zero, suc, nat_eq, if◌then◌else◌, List, [], ◌∷◌, Result, Ok, Err}
use Rattle.kc_bytes.specs.Bytes as memory
use Rattle.kc_memory.specs.Image.{Image}
use Rattle.kc_kallsyms.specs.declared.fault.TableFault.TheVariants.{S6}
use Rattle.kc_kallsyms.specs.Reading.{◌>>=◌, Why, Bad, missed}

-- a byte, and numbers of two, four and eight bytes, the lowest first
abbrev pub byte_at : Image → ℕ → Result ℕ Why
byte_at image at = missed (memory.byte_at image at)

abbrev pub two_at : Image → ℕ → Result ℕ Why
two_at image at = missed (memory.two_at image at)

abbrev pub four_at : Image → ℕ → Result ℕ Why
four_at image at = missed (memory.four_at image at)

abbrev pub eight_at : Image → ℕ → Result ℕ Why
eight_at image at = missed (memory.eight_at image at)

-- so many bytes
abbrev pub bytes_at : Image → ℕ → ℕ → Result (List ℕ) Why
bytes_at image count at = missed (memory.bytes_at image count at)

-- the bytes before the first NUL, which has to be one of so many; a token that has none is refused by its number
unfoldable pub string_at : Image → ℕ → ℕ → ℕ → Result (List ℕ) Why
string_at image number zero at = Err (Bad (S6 number))
string_at image number (suc room) at = do
  byte ← byte_at image at
  if nat_eq byte 0 then Ok [] else (string_at image number room (memory.onward at 1) >>= (λ rest. Ok (byte ∷ rest)))
