-- The formats that others are composed of.
use Rattle.std.specs.Prelude.{◌≡◌, ℕ, zero, suc, ◌+◌, ◌-◌, ◌*◌, ◌^◌, ◌<◌, ◌≤◌, Bool, true, ◌&&◌, ◌||◌, ◌==◌, nat_le, nat_lt, if◌then◌else◌, List, [], ◌∷◌, ◌++◌, length, decimal, Result, Ok, Err, IsTrue, ◌⊎◌}
use Rattle.kc_word.specs.Hex.{hex_digits}
use Rattle.kc_text.specs.Format.{Format}
use Rattle.kc_text.specs.Reading.{and_then, or_else}

-- one text, which stands for nothing else
abbrev pub read_literal : List ℕ → List ℕ → Result (Unit {0} × List ℕ) (List ℕ)
read_literal [] bytes = Ok (tt, bytes)
read_literal (x ∷ xs) [] = Err []
read_literal (x ∷ xs) (c ∷ cs) = if x == c then read_literal xs cs else Err (c ∷ cs)

abbrev pub literal : List ℕ → Format (Unit {0})
literal text = record { Good = λ _. Unit {0}; spell = λ _. text; read = read_literal text }

-- whether a byte may stand in a name: a letter, a digit, `_` or `-`
abbrev pub is_name_byte : ℕ → Bool
is_name_byte c =
    (nat_le 97 c && nat_le c 122) || (nat_le 65 c && nat_le c 90) || (nat_le 48 c && nat_le c 57) || (c == 95) || (c == 45)

abbrev pub has_name_bytes : List ℕ → Bool
has_name_bytes [] = true
has_name_bytes (c ∷ cs) = is_name_byte c && has_name_bytes cs

-- a name: 1 to 64 of these bytes
abbrev pub is_name : List ℕ → Bool
is_name name = has_name_bytes name && nat_le 1 (length name) && nat_le (length name) 64

-- so many bytes of a name at most, and then the one that ends it
unfoldable pub read_name : ℕ → ℕ → List ℕ → Result (List ℕ × List ℕ) (List ℕ)
read_name room end [] = Err []
read_name zero end (c ∷ cs) = if c == end then Ok ([], cs) else Err (c ∷ cs)
read_name (suc room) end (c ∷ cs) =
    if c == end then Ok ([], cs)
    else (if is_name_byte c then and_then (read_name room end cs) (λ r. Ok (c ∷ r.0, r.1)) else Err (c ∷ cs))

-- a name, and then the byte that ends it, which may not stand in one
abbrev pub read_name_first : ℕ → List ℕ → Result (List ℕ × List ℕ) (List ℕ)
read_name_first end [] = Err []
read_name_first end (c ∷ cs) = if is_name_byte c then and_then (read_name 63 end cs) (λ r. Ok (c ∷ r.0, r.1)) else Err (c ∷ cs)

abbrev pub name_and : ℕ → Format (List ℕ)
name_and end = record { Good = λ name. IsTrue (is_name name); spell = λ name. name ++ end ∷ []; read = read_name_first end }

-- whether a byte is a decimal digit
abbrev pub is_digit : ℕ → Bool
is_digit c = nat_le 48 c && nat_le c 57

-- decimal digits that go on those of n, as long as the number is below the limit, and then the byte that ends them
unfoldable pub read_digits : ℕ → ℕ → ℕ → List ℕ → Result (ℕ × List ℕ) (List ℕ)
read_digits limit n end [] = Err []
read_digits limit n end (c ∷ cs) =
    if c == end then Ok (n, cs)
    else (if is_digit c && nat_lt (10 * n + (c - 48)) limit then read_digits limit (10 * n + (c - 48)) end cs else Err (c ∷ cs))

-- nothing may follow a 0 but the byte that ends it
abbrev pub read_decimal : ℕ → ℕ → List ℕ → Result (ℕ × List ℕ) (List ℕ)
read_decimal limit end [] = Err []
read_decimal limit end (c ∷ cs) =
    if c == 48 then and_then (read_literal (end ∷ []) cs) (λ r. Ok (0, r.1))
    else (if is_digit c then read_digits limit (c - 48) end cs else Err (c ∷ cs))

-- a number below a limit, which is at least 10, in decimal, without leading zeros, and then the byte that ends it, which
-- is no digit
abbrev pub decimal_below : ℕ → ℕ → Format ℕ
decimal_below limit end = record { Good = λ n. n < limit; spell = λ n. decimal n ++ end ∷ []; read = read_decimal limit end }

abbrev pub decimal_and : ℕ → Format ℕ
decimal_and end = decimal_below (2 ^ 64) end

-- whether a byte is a hex digit in lower case, and what it is worth then
abbrev pub is_lower_hex : ℕ → Bool
is_lower_hex c = is_digit c || (nat_le 97 c && nat_le c 102)

abbrev pub lower_value : ℕ → ℕ
lower_value c = if nat_le c 57 then c - 48 else (c - 87)

-- so many hex digits that go on those of n
unfoldable pub read_hex_digits : ℕ → ℕ → List ℕ → Result (ℕ × List ℕ) (List ℕ)
read_hex_digits zero n bytes = Ok (n, bytes)
read_hex_digits (suc k) n [] = Err []
read_hex_digits (suc k) n (c ∷ cs) = if is_lower_hex c then read_hex_digits k (16 * n + lower_value c) cs else Err (c ∷ cs)

-- a number below 2^64 in 16 hex digits
abbrev pub hex16 : Format ℕ
hex16 = record { Good = λ n. n < 2 ^ 64; spell = hex_digits 16; read = read_hex_digits 16 0 }

-- one digit from low to high, neither above 9
abbrev pub read_digit : ℕ → ℕ → List ℕ → Result (ℕ × List ℕ) (List ℕ)
read_digit low high [] = Err []
read_digit low high (c ∷ cs) = if nat_le (48 + low) c && nat_le c (48 + high) then Ok (c - 48, cs) else Err (c ∷ cs)

abbrev pub digit_from : ℕ → ℕ → Format ℕ
digit_from low high = record { Good = λ d. (low ≤ d) × (d ≤ high); spell = λ d. (48 + d) ∷ []; read = read_digit low high }

-- one of these values, each with a text of its own
abbrev pub read_one_of : {X : Type 0} → (X → List ℕ) → List X → List ℕ → Result (X × List ℕ) (List ℕ)
read_one_of spell [] bytes = Err bytes
read_one_of spell (x ∷ xs) bytes = or_else (and_then (read_literal (spell x) bytes) (λ r. Ok (x, r.1))) (read_one_of spell xs bytes)

abbrev pub IsAmong : {X : Type 0} → X → List X → Type 0
IsAmong x [] = ⊥
IsAmong x (y ∷ ys) = (x ≡ y) ⊎ IsAmong x ys

abbrev pub one_of : {X : Type 0} → (X → List ℕ) → List X → Format X
one_of spell xs = record { Good = λ x. IsAmong x xs; spell = spell; read = read_one_of spell xs }
