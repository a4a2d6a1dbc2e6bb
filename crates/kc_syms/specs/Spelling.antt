-- How a row is spelled on its line.
use Rattle.std.specs.Prelude.{◌≡◌, ◌≢◌, ℕ, ◌^◌, ◌<◌, ◌≤◌, ◌⊎◌, List, [], ◌∷◌, ◌++◌, All, ⊤}
use Rattle.kc_word.specs.Hex.{hex_digits}
use Rattle.kc_syms.specs.Rows.{RowText}

-- an ASCII letter or ?
abbrev pub IsKind : ℕ → Type 0
IsKind c = ((65 ≤ c) × (c ≤ 90)) ⊎ ((97 ≤ c) × (c ≤ 122)) ⊎ (c ≡ 63)

-- a byte of a name
abbrev pub IsNameByte : ℕ → Type 0
IsNameByte c = (33 ≤ c) × (c ≤ 126)

-- The line is the row's address in 16 hex digits, a space, a kind, a space and the row's name.
pub record Spells (line : List ℕ) (row : RowText) : Type 0 where
  pub kind : ℕ
  pub text : line ≡ hex_digits 16 row.listed ++ 32 ∷ kind ∷ 32 ∷ row.name
  pub fits : row.listed < 2 ^ 64
  pub is_kind : IsKind kind
  pub named : row.name ≢ []
  pub visible : All IsNameByte row.name

-- Each of the lines spells its row.
abbrev pub SpellAll : List (List ℕ) → List RowText → Type 0
SpellAll [] [] = ⊤
SpellAll [] (row ∷ rows) = ⊥
SpellAll (line ∷ lines) [] = ⊥
SpellAll (line ∷ lines) (row ∷ rows) = Spells line row × SpellAll lines rows

-- No row is spelled by the line.
abbrev pub SpellsNone : List ℕ → Type 0
SpellsNone line = (row : RowText) → Spells line row → ⊥
