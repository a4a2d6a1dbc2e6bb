-- What a line of VMCOREINFO states of the kernel that crashed (the kernel's kdump documents, "VMCOREINFO").
use Rattle.std.specs.Prelude.{ℕ, ◌+◌, ℤ, ◌==◌, List, ◌++◌, codes, length, take, drop, position, Option, Some, None, option_and_then, option_map, if◌then◌else◌}
use Rattle.std.specs.Option.{option_or}
use Rattle.std.specs.Str.{bytes_eq}
use Rattle.kc_word.specs.Decimal.{decimal_number}
use Rattle.kc_word.specs.Hex.{hex_number}

-- the address of a symbol, the size of a type in bytes, or the byte of a type at which a member begins
pub data Fact : Type 0 where
  Symbol : (name : List ℕ) → (address : ℕ) → Fact
  Size : (name : List ℕ) → (size : ℤ) → Fact
  Offset : (name member : List ℕ) → (byte : ℤ) → Fact

-- what stands behind a head of a text
abbrev pub behind : List ℕ → List ℕ → Option (List ℕ)
behind head text = if bytes_eq (take (length head) text) head then Some (drop (length head) text) else None

-- the parts of a text before and behind the first byte of a value
abbrev pub parted : ℕ → List ℕ → Option (List ℕ × List ℕ)
parted mark text = option_map (λ at. (take at text, drop (at + 1) text)) (position (λ c. c == mark) text)

-- what stands behind a head up to the first `)`, and what stands behind `)=`
abbrev pub closed : List ℕ × List ℕ → Option (List ℕ × List ℕ)
closed parts = option_map (λ value. (parts.0, value)) (behind (codes "=") parts.1)

unfoldable pub entry : List ℕ → List ℕ → Option (List ℕ × List ℕ)
entry head line = option_and_then closed (option_and_then (parted 41) (behind head line))

-- `SYMBOL(name)=` and a hex number
abbrev pub symbol_of : List ℕ × List ℕ → Option Fact
symbol_of e = option_map (λ address. Symbol e.0 address) (hex_number e.1)

unfoldable pub symbol_in : List ℕ → Option Fact
symbol_in line = option_and_then symbol_of (entry (codes "SYMBOL(") line)

-- `SIZE(name)=` and a decimal number
abbrev pub size_of : List ℕ × List ℕ → Option Fact
size_of e = option_map (λ size. Size e.0 size) (decimal_number e.1)

unfoldable pub size_in : List ℕ → Option Fact
size_in line = option_and_then size_of (entry (codes "SIZE(") line)

-- `OFFSET(name.member)=` and a decimal number: the first dot ends the type's name
abbrev pub offset_at : List ℕ → List ℕ × List ℕ → Option Fact
offset_at value names = option_map (λ byte. Offset names.0 names.1 byte) (decimal_number value)

unfoldable pub offset_in : List ℕ → Option Fact
offset_in line = option_and_then (λ e. option_and_then (offset_at e.1) (parted 46 e.0)) (entry (codes "OFFSET(") line)

-- what a line states; other lines state nothing that is compared
abbrev pub fact_in : List ℕ → Option Fact
fact_in line = option_or (symbol_in line) (option_or (size_in line) (offset_in line))
