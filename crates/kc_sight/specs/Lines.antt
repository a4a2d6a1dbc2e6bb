-- The symbol nearest below an address by the lines of a map, where each of them is a row: 16 digits, a space, a kind, a space and
-- a name.
use Rattle.std.specs.Prelude.{ℕ, nat_lt, if◌then◌else◌, List, [], ◌∷◌, length, take, drop, Option, None, option_and_then, option_map}
use Rattle.kc_word.specs.Hex.{hex_number}
use Rattle.kc_syms.specs.Rows.{RowText}
use Rattle.kc_sight.specs.Nearest.{SymbolAt, below, higher}

-- the row of a line
abbrev pub row_in : List ℕ → Option RowText
row_in line =
    if nat_lt (length line) 19 then None
    else option_map (λ listed. record { listed = listed; name = drop 19 line }) (hex_number (take 16 line))

abbrev pub in_line : ℕ → ℕ → ℕ → List ℕ → Option SymbolAt
in_line from kaslr address line = option_and_then (λ row. below from kaslr address row.listed row.name) (row_in line)

abbrev pub in_lines : ℕ → ℕ → ℕ → List (List ℕ) → Option SymbolAt
in_lines from kaslr address [] = None
in_lines from kaslr address (line ∷ lines) = higher (in_line from kaslr address line) (in_lines from kaslr address lines)
