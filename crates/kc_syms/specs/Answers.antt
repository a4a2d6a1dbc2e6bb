-- What an answer of the reader says.
use Rattle.std.specs.Prelude.{◌≡◌, ℕ, ◌+◌, List, ◌∷◌, ◌++◌, length, Result, Ok, Err, ⊤}
use Rattle.kc_syms.specs.declared.fault.SymStop.{SymStop}
use Rattle.kc_syms.specs.declared.fault.SymStop.TheVariants.{S1, NoMemory}
use Rattle.kc_syms.specs.declared.symbols.Symbols.{Symbols}
use Rattle.kc_syms.specs.Rows.{RowText, addresses, lines, rows}
use Rattle.kc_syms.specs.Spelling.{SpellAll, SpellsNone}
use Rattle.kc_syms.specs.Symbols.{symbol}

-- Each name has its rows' addresses, in their order.
abbrev pub Stands : (List ℕ → List ℕ) → List RowText → Type 0
Stands listed rows = (name : List ℕ) → listed name ≡ addresses name rows

-- The symbols are those of the rows, or the line is the first that is no row, or memory was wanting.
abbrev pub IsAnswer : Result Symbols SymStop → Result (List RowText) ℕ → Type 0
IsAnswer (Ok symbols) meant = (rows : List RowText) × (meant ≡ Ok rows) × Stands (symbol symbols) rows
IsAnswer (Err (S1 number)) meant = meant ≡ Err number
IsAnswer (Err NoMemory) meant = ⊤

-- Each line spells a row, and each name has its rows' addresses, in their order.
abbrev pub IsSpelled : Symbols → List (List ℕ) → Type 0
IsSpelled symbols lines = (rows : List RowText) × SpellAll lines rows × Stands (symbol symbols) rows

-- Of lines that are counted from a number on, the one with this number spells no row, and each before it
-- spells one.
pub record IsFirstBad (first number : ℕ) (lines : List (List ℕ)) : Type 0 where
  pub front : List (List ℕ)
  pub line : List ℕ
  pub back : List (List ℕ)
  pub split : lines ≡ front ++ line ∷ back
  pub place : number ≡ first + length front
  pub rows : List RowText
  pub before : SpellAll front rows
  pub none : SpellsNone line

-- what the answer says of the lines
abbrev pub IsAnswerBySpelling : Result Symbols SymStop → List (List ℕ) → Type 0
IsAnswerBySpelling (Ok symbols) lines = IsSpelled symbols lines
IsAnswerBySpelling (Err (S1 number)) lines = IsFirstBad 1 number lines
IsAnswerBySpelling (Err NoMemory) lines = ⊤
