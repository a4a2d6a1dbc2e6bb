-- Decimal text.
use Rattle.std.specs.Prelude.{ℕ, ◌+◌, ◌-◌, ◌*◌, ◌^◌, ℤ, pos, ◌-ℤ◌, List, [], ◌∷◌, length, Option, Some, None, option_and_then, ◌==◌, ◌&&◌, nat_le, nat_lt, if◌then◌else◌}

-- what a character is worth as a digit
abbrev pub decimal_value : ℕ → Option ℕ
decimal_value c = if nat_le 48 c && nat_le c 57 then Some (c - 48) else None

-- the number whose digits are those of n and then these
unfoldable pub decimal_from : ℕ → List ℕ → Option ℕ
decimal_from n [] = Some n
decimal_from n (c ∷ cs) = option_and_then (λ d. decimal_from (10 * n + d) cs) (decimal_value c)

-- the number of 1 to 19 digits
abbrev pub decimal_digits : List ℕ → Option ℕ
decimal_digits ds =
    if nat_le 1 (length ds) && nat_le (length ds) 19 then decimal_from 0 ds else None

-- the number, where 64 bits with a sign hold it
abbrev pub positive : ℕ → Option ℤ
positive n = if nat_lt n (2 ^ 63) then Some (pos n) else None

-- the number below zero, where they hold it
abbrev pub negative : ℕ → Option ℤ
negative n = if nat_le n (2 ^ 63) then Some (pos 0 -ℤ pos n) else None

-- the whole number that a text writes: an optional - and 1 to 19 digits
abbrev pub decimal_number : List ℕ → Option ℤ
decimal_number [] = None
decimal_number (c ∷ cs) =
    if c == 45 then option_and_then negative (decimal_digits cs)
    else option_and_then positive (decimal_digits (c ∷ cs))
