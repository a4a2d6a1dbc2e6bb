-- The rows of a kernel's System.map.
use Rattle.std.specs.Prelude.{ℕ, ◌+◌, ◌&&◌, ◌||◌, ◌==◌, Bool, nat_le, nat_lt, List, [], ◌∷◌, length, take, drop, map, Option, Some, None, Result, Ok, Err, if◌then◌else◌}
use Rattle.std.specs.List.{list_all}
use Rattle.std.specs.Str.{bytes_eq}
use Rattle.bstr.specs.Text.{lines_of, without_terminator}
use Rattle.kc_word.specs.Hex.{hex_number}

-- a row: the address that it lists, and its name
pub record RowText : Type 0 where
  pub listed : ℕ
  pub name : List ℕ

-- 0 to 9 or a to f
abbrev pub is_digit : ℕ → Bool
is_digit c = (nat_le 48 c && nat_le c 57) || (nat_le 97 c && nat_le c 102)

-- the kind of a symbol: an ASCII letter or ?
abbrev pub is_kind : ℕ → Bool
is_kind c = (nat_le 65 c && nat_le c 90) || (nat_le 97 c && nat_le c 122) || (c == 63)

-- a byte of a name: 0x21 to 0x7e
abbrev pub is_name_byte : ℕ → Bool
is_name_byte c = nat_le 33 c && nat_le c 126

-- the address that 16 digits list
abbrev pub listed_in : List ℕ → Option ℕ
listed_in digits = if list_all is_digit digits then hex_number digits else None

-- a name, of one or more bytes
abbrev pub name_in : List ℕ → Option (List ℕ)
name_in [] = None
name_in (c ∷ cs) = if list_all is_name_byte (c ∷ cs) then Some (c ∷ cs) else None

-- the name behind a space, a kind and a space
abbrev pub name_behind : List ℕ → Option (List ℕ)
name_behind [] = None
name_behind (a ∷ []) = None
name_behind (a ∷ b ∷ []) = None
name_behind (a ∷ kind ∷ b ∷ name) = if (a == 32) && is_kind kind && (b == 32) then name_in name else None

-- a row of these parts, where both are there
abbrev pub row_with : Option ℕ → Option (List ℕ) → Option RowText
row_with None name = None
row_with (Some listed) None = None
row_with (Some listed) (Some name) = Some (record { listed = listed; name = name })

-- the row of a line
unfoldable pub row_of : List ℕ → Option RowText
row_of line =
    if nat_lt (length line) 16 then None
    else row_with (listed_in (take 16 line)) (name_behind (drop 16 line))

-- a row before further ones, or the number of the line that is none
abbrev pub row_before : Option RowText → ℕ → Result (List RowText) ℕ → Result (List RowText) ℕ
row_before None number rest = Err number
row_before (Some row) number (Err bad) = Err bad
row_before (Some row) number (Ok rows) = Ok (row ∷ rows)

-- the rows of lines that are counted from a number on, or the number of the first that is none
abbrev pub rows_from : ℕ → List (List ℕ) → Result (List RowText) ℕ
rows_from number [] = Ok []
rows_from number (line ∷ lines) = row_before (row_of line) number (rows_from (number + 1) lines)

-- the lines of a file: each ends at a newline, which goes with a carriage return directly before it
abbrev pub lines : List ℕ → List (List ℕ)
lines bytes = map without_terminator (lines_of bytes)

-- the rows of a file, or the number of the first line that is none, from 1
unfoldable pub rows : List ℕ → Result (List RowText) ℕ
rows bytes = rows_from 1 (lines bytes)

-- the addresses that a name's rows list, in the order of the rows
abbrev pub addresses : List ℕ → List RowText → List ℕ
addresses name [] = []
addresses name (row ∷ rows) =
    if bytes_eq row.name name then row.listed ∷ addresses name rows else addresses name rows
