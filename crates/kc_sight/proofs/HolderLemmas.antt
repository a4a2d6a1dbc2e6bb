-- The symbols whose words hold a value, line by line.
use Rattle.std.proofs.Common.{◌≡◌, ℕ, ◌+◌, List, [], ◌∷◌, ◌++◌, map, Option, Some, None, option_map, Result, Ok, Err, refl, sym, ap, ◌∙◌, append_assoc}
use Rattle.std.specs.Global.{Vec}
use Rattle.std.specs.Prelude.{IfSome}
use Rattle.std.proofs.lemmas.List.{append-nil, map-append}
use Rattle.kc_memory.specs.Image.{Image}
use Rattle.kc_syms.specs.Rows.{RowText, lines, row_before, row_of, rows, rows_from}
use Rattle.kc_sight.specs.declared.symbol.ImageMap.{ImageMap}
use Rattle.kc_sight.specs.declared.symbol.Symbol.{Symbol}
use Rattle.kc_sight.specs.Holders.{holder_by, holding, with_holder}
use Rattle.kc_sight.specs.Laws.{HoldersAreRows}
use Rattle.kc_sight.specs.Lines.{row_in}
use Rattle.kc_sight.specs.Looks.{LooksAs}
use Rattle.kc_sight.specs.Nearest.{SymbolAt}
use Rattle.kc_sight.specs.Views.{symbol_view, symbols_holding}
use Rattle.kc_sight.proofs.NearestLemmas.{same_row}

-- lines that are rows are these rows
next_rows : (line : List ℕ) (left : List (List ℕ)) (row : Option RowText) (rest : Result (List RowText) ℕ) (number : ℕ) (listed : List RowText)
    → row_of line ≡ row → ((others : List RowText) → rest ≡ Ok others → map row_in left ≡ map (λ (row : RowText). Some row) others) → row_before row number rest ≡ Ok listed
    → row_in line ∷ map row_in left ≡ map (λ (row : RowText). Some row) listed
next_rows line left None rest number listed is next e = absurd (cc)
next_rows line left (Some row) (Err bad) number listed is next e = absurd (cc)
next_rows line left (Some row) (Ok rest) number [] is next e = absurd (cc)
next_rows line left (Some row) (Ok rest) number (first ∷ others) is next e =
    let same : row ≡ first = cc in
    let after : rest ≡ others = cc in
    rw (same_row line row is) (rw (next rest refl) (rw same (rw after refl)))

no_rows : (number : ℕ) (listed : List RowText) → rows_from number [] ≡ Ok listed → [] ≡ map (λ (row : RowText). Some row) listed
no_rows number [] e = refl
no_rows number (row ∷ rest) e = absurd (cc)

all_rows : (number : ℕ) (left : List (List ℕ)) (listed : List RowText) → rows_from number left ≡ Ok listed → map row_in left ≡ map (λ (row : RowText). Some row) listed
all_rows number [] listed e = no_rows number listed e
all_rows number (line ∷ left) listed e = next_rows line left (row_of line) (rows_from (number + 1) left) number listed refl (all_rows (number + 1) left) e

in_rows : (map_bytes : List ℕ) (listed : List RowText) → rows map_bytes ≡ Ok listed → map row_in (lines map_bytes) ≡ map (λ (row : RowText). Some row) listed
unfolding rows
in_rows map_bytes listed e = all_rows 1 (lines map_bytes) listed e

pub holders_are_rows : HoldersAreRows
holders_are_rows image m listed value e = ap (holding image m.parts m.kaslr value) (in_rows m.map.now listed e)

-- the lines that are left, one by one
module _ (i : Image) (m : ImageMap) (value : ℕ) where
  abbrev left : List (List ℕ) → List SymbolAt
  left lines = holding i m.parts m.kaslr value (map row_in lines)

  left_at : (line : List ℕ) (lines : List (List ℕ)) → left (line ∷ lines) ≡ with_holder (holder_by i m.parts m.kaslr value (row_in line)) (left lines)
  unfolding holding
  left_at line lines = refl

  left_none : left [] ≡ []
  unfolding holding
  left_none = refl

  one_left : (old : List SymbolAt) (line : List ℕ) (lines : List (List ℕ)) (row : Option RowText) (s : Option SymbolAt) → row ≡ row_in line → s ≡ holder_by i m.parts m.kaslr value row
      → old ++ with_holder s (left lines) ≡ old ++ left (line ∷ lines)
  one_left old line lines row s is tells =
      ap (λ (h : Option SymbolAt). old ++ with_holder h (left lines)) (tells ∙ ap (holder_by i m.parts m.kaslr value) is) ∙ ap (λ (l : List SymbolAt). old ++ l) (sym (left_at line lines))

-- what was found and what the lines that are left have come to all
abbrev pub FoundSo : Option Image → ImageMap → ℕ → List SymbolAt → List (List ℕ) → Type 0
FoundSo image m value old lines = IfSome image (λ i. old ++ holding i m.parts m.kaslr value (map row_in lines) ≡ symbols_holding i m value)

abbrev pub Tells : Option Image → ImageMap → ℕ → Option RowText → Option Symbol → Type 0
Tells image m value row s = LooksAs {A = Option SymbolAt} (λ (s : Option Symbol). option_map symbol_view s) (λ i. holder_by i m.parts m.kaslr value row) image (Ok s)

pub skipped : (image : Option Image) (m : ImageMap) (value : ℕ) (old : List SymbolAt) (line : List ℕ) (lines : List (List ℕ)) (row : Option RowText) → row ≡ row_in line
    → FoundSo image m value old (line ∷ lines) → Tells image m value row None → FoundSo image m value old lines
skipped None m value old line lines row is so_far tells = tt
skipped (Some i) m value old line lines row is so_far tells = one_left i m value old line lines row None is tells ∙ so_far

pub added : (image : Option Image) (m : ImageMap) (value : ℕ) (old new : List Symbol) (line : List ℕ) (lines : List (List ℕ)) (row : Option RowText) (s : Symbol) → row ≡ row_in line
    → FoundSo image m value (map symbol_view old) (line ∷ lines) → Tells image m value row (Some s) → new ≡ old ++ s ∷ [] → FoundSo image m value (map symbol_view new) lines
added None m value old new line lines row s is so_far tells pushed = tt
added (Some i) m value old new line lines row s is so_far tells pushed =
    let rest : List SymbolAt = holding i m.parts m.kaslr value (map row_in lines) in
    ap (λ (l : List Symbol). map symbol_view l ++ rest) pushed ∙ ap (λ (l : List SymbolAt). l ++ rest) (map-append symbol_view old (s ∷ []))
    ∙ append_assoc (map symbol_view old) (symbol_view s ∷ []) rest ∙ one_left i m value (map symbol_view old) line lines row (Some (symbol_view s)) is tells ∙ so_far

pub all_found : (image : Option Image) (m : ImageMap) (value : ℕ) (found : Vec Symbol) → FoundSo image m value (map symbol_view found.items) []
    → LooksAs {A = List SymbolAt} (λ (v : Vec Symbol). map symbol_view v.items) (λ i. symbols_holding i m value) image (Ok found)
all_found None m value found so_far = tt
all_found (Some i) m value found so_far = sym (append-nil (map symbol_view found.items)) ∙ ap (λ (l : List SymbolAt). map symbol_view found.items ++ l) (sym (left_none i m value)) ∙ so_far
