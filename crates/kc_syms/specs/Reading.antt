-- What contracts see of the reader of rows.
use Rattle.std.specs.Prelude.{◌≡◌, ℕ, Bool, List, [], ◌∷◌, Option, Some, None, ⊤, ◌==◌, ◌&&◌, if◌then◌else◌}
use Rattle.std.specs.Borrow.{Bor}
use Rattle.std.specs.List.{list_all}
use Rattle.kc_word.specs.Hex.{hex_from}
use Rattle.kc_syms.specs.declared.row.Row.{Row}
use Rattle.kc_syms.specs.Rows.{RowText, is_digit, is_kind, lines, row_of}
use Rattle.kc_syms.specs.Views.{row_text}

-- the digit f
abbrev pub is_f : ℕ → Bool
is_f c = c == 102

-- the address whose digits are those of a number and then these
abbrev pub listed_from : ℕ → List ℕ → Option ℕ
listed_from number digits = if list_all is_digit digits then hex_from number digits else None

-- what stands behind a space, a kind and a space
abbrev pub behind_kind : List ℕ → Option (List ℕ)
behind_kind [] = None
behind_kind (a ∷ []) = None
behind_kind (a ∷ b ∷ []) = None
behind_kind (a ∷ kind ∷ b ∷ text) = if (a == 32) && is_kind kind && (b == 32) then Some text else None

-- what stands behind a newline
abbrev pub behind_newline : List ℕ → Option (List ℕ)
behind_newline [] = None
behind_newline (c ∷ cs) = if c == 10 then Some cs else None

-- The first line of some bytes is a row, and what is behind it are the further lines.
pub record IsFirstRow (bytes : List ℕ) (row : RowText) (behind : List ℕ) : Type 0 where
  pub line : List ℕ
  pub split : lines bytes ≡ line ∷ lines behind
  pub is : row_of line ≡ Some row

-- The first of these lines is no row.
abbrev pub BeginsWithNone : List (List ℕ) → Type 0
BeginsWithNone [] = ⊤
BeginsWithNone (line ∷ lines) = row_of line ≡ None

-- The first line is this row, and this is behind it, or it is none.
abbrev pub IsFirstRead : List ℕ → Option (Row × Bor (List ℕ)) → Type 0
IsFirstRead bytes None = BeginsWithNone (lines bytes)
IsFirstRead bytes (Some found) = IsFirstRow bytes (row_text found.0) found.1.now
