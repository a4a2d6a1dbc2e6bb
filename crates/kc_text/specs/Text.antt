-- Numbers and names as text.
use Rattle.std.specs.Prelude.{ℕ, ◌&&◌, nat_le, if◌then◌else◌, List, [], ◌∷◌, codes, map}
use Rattle.kc_word.specs.Hex.{hex_digits}

-- 16 digits
abbrev pub hex : ℕ → List ℕ
hex n = hex_digits 16 n

-- a byte of a name: what is no visible ASCII character is a question mark
abbrev pub visible : ℕ → ℕ
visible c = if nat_le 0x21 c && nat_le c 0x7e then c else 63

-- a name, or a dash in place of none
abbrev pub name_text : List ℕ → List ℕ
name_text [] = codes "-"
name_text (c ∷ cs) = map visible (c ∷ cs)
