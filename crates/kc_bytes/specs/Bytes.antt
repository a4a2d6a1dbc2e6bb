-- Bytes of virtual memory, one after the other. Addresses wrap at 2^64.
use Rattle.std.specs.Prelude.{◌≡◌, ⊤, ℕ, zero, suc, ◌+◌, ◌*◌, ◌/◌, ◌%◌, ◌^◌, List, [], ◌∷◌, ◌++◌, Option, Some, None, Result, Ok}
use Rattle.kc_memory.specs.declared.words.VWord.{VWord}
use Rattle.kc_memory.specs.Image.{Image}
use Rattle.kc_memory.specs.Stopped.{Stopped}
use Rattle.kc_memory.specs.Translation.{and_then, vword}

-- one step after the other
infixl 10 ◌>>=◌
abbrev pub ◌>>=◌ : {A B : Type 0} → Result A Stopped → (A → Result B Stopped) → Result B Stopped
r >>= next = and_then r next

-- the address so many bytes on
abbrev pub onward : ℕ → ℕ → ℕ
onward at count = (at + count) % 2 ^ 64

-- the aligned word that holds the byte at an address, and the byte in it, the lowest first
abbrev pub word_start : ℕ → ℕ
word_start at = at / 8 * 8

abbrev pub byte_in : ℕ → ℕ → ℕ
byte_in at word = word / 2 ^ (8 * (at % 8)) % 256

unfoldable pub byte_at : Image → ℕ → Result ℕ Stopped
byte_at image at = vword image (word_start at) >>= (λ w. Ok (byte_in at w.value))

-- numbers of two, four and eight bytes, the lowest first
unfoldable pub two_at : Image → ℕ → Result ℕ Stopped
two_at image at = do
  low ← byte_at image at
  high ← byte_at image (onward at 1)
  Ok (low + 2 ^ 8 * high)

unfoldable pub four_at : Image → ℕ → Result ℕ Stopped
four_at image at = do
  low ← two_at image at
  high ← two_at image (onward at 2)
  Ok (low + 2 ^ 16 * high)

unfoldable pub eight_at : Image → ℕ → Result ℕ Stopped
eight_at image at = do
  low ← four_at image at
  high ← four_at image (onward at 4)
  Ok (low + 2 ^ 32 * high)

-- so many bytes
unfoldable pub bytes_at : Image → ℕ → ℕ → Result (List ℕ) Stopped
bytes_at image zero at = Ok []
bytes_at image (suc count) at = do
  byte ← byte_at image at
  rest ← bytes_at image count (onward at 1)
  Ok (byte ∷ rest)

-- bytes that were read before others
abbrev pub prefixed : List ℕ → Result (List ℕ) Stopped → Result (List ℕ) Stopped
prefixed done rest = rest >>= (λ bytes. Ok (done ++ bytes))

-- a word that is kept is that of the dump
abbrev pub IsWord : Image → Option VWord → Type 0
IsWord image None = ⊤
IsWord image (Some w) = vword image w.va ≡ Ok w

abbrev pub IsKept : Option Image → Option VWord → Type 0
IsKept None word = ⊤
IsKept (Some image) word = IsWord image word
