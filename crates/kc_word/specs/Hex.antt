-- Hex text.
use Rattle.std.specs.Prelude.{ℕ, zero, suc, ◌+◌, ◌-◌, ◌*◌, ◌/◌, ◌%◌, List, [], ◌∷◌, ◌++◌, length, Option, Some, None, option_and_then, ◌==◌, ◌&&◌, nat_le, nat_lt, if◌then◌else◌}

-- the character of a digit: 0 to 9, then a to f
abbrev pub hex_digit : ℕ → ℕ
hex_digit d = if nat_lt d 10 then 48 + d else (87 + d)

-- the lowest k digits of n, the highest of them first
unfoldable pub hex_digits : ℕ → ℕ → List ℕ
hex_digits zero n = []
hex_digits (suc k) n = hex_digits k (n / 16) ++ hex_digit (n % 16) ∷ []

-- what a character is worth as a digit, in either case
abbrev pub digit_value : ℕ → Option ℕ
digit_value c =
    if nat_le 48 c && nat_le c 57 then Some (c - 48)
    else (if nat_le 97 c && nat_le c 102 then Some (c - 87)
    else (if nat_le 65 c && nat_le c 70 then Some (c - 55) else None))

-- the number whose digits are those of n and then these
unfoldable pub hex_from : ℕ → List ℕ → Option ℕ
hex_from n [] = Some n
hex_from n (c ∷ cs) = option_and_then (λ d. hex_from (16 * n + d) cs) (digit_value c)

-- what stands behind an optional 0x
abbrev pub digits_of : List ℕ → List ℕ
digits_of (a ∷ b ∷ rest) = if (a == 48) && (b == 120) then rest else (a ∷ b ∷ rest)
digits_of (a ∷ []) = a ∷ []
digits_of [] = []

-- the number that a text writes: an optional 0x and 1 to 16 digits
abbrev pub hex_number : List ℕ → Option ℕ
hex_number text =
    if nat_le 1 (length (digits_of text)) && nat_le (length (digits_of text)) 16
    then hex_from 0 (digits_of text) else None
