-- The lines of a map, one by one.
use Rattle.std.proofs.Common.{◌≡◌, ℕ, ◌+◌, ◌≤◌, Bool, true, false, nat_lt, List, [], ◌∷◌, length, take, drop, Option, Some, None, Result, Ok, Err, refl, sym, ap, ◌∙◌, arith, option_and_then, if◌then◌else◌}
use Rattle.std.proofs.lemmas.Bool.Decides.{nat_tests}
use Rattle.std.proofs.lemmas.List.{drop-drop, length-drop}
use Rattle.kc_word.specs.Hex.{hex_number}
use Rattle.kc_syms.specs.Rows.{RowText, listed_in, lines, name_behind, name_in, row_before, row_of, row_with, rows, rows_from}
use Rattle.kc_sight.specs.declared.symbol.ImageParts.{ImageParts}
use Rattle.kc_sight.specs.Laws.{SymbolsAreRows}
use Rattle.kc_sight.specs.Lines.{in_line, in_lines, row_in}
use Rattle.kc_sight.specs.Nearest.{SymbolAt, below, higher, higher_of, is_kept, nearest}

-- which of two is higher doesn't hang on the order in which they are met
higher_three : (a b c : SymbolAt) → higher_of a (higher_of b c) ≡ higher_of (higher_of a b) c
higher_three a b c = grind (arith, nat_tests)

pub higher-assoc : (a b c : Option SymbolAt) → higher a (higher b c) ≡ higher (higher a b) c
higher-assoc None b c = refl
higher-assoc (Some a) None c = refl
higher-assoc (Some a) (Some b) None = refl
higher-assoc (Some a) (Some b) (Some c) = ap (λ (s : SymbolAt). Some s) (higher_three a b c)

-- what stands behind a name's two spaces and kind, where these are there
record NameBehind (text name : List ℕ) : Type 0 where
  pub long : 3 ≤ length text
  pub rest : drop 3 text ≡ name

of_name : (text name : List ℕ) → name_in text ≡ Some name → text ≡ name
of_name [] name e = absurd (cc)
of_name (c ∷ cs) name e = grind arith

behind_kind : (b : Bool) (one two three : ℕ) (text name : List ℕ) → (if b then name_in text else None) ≡ Some name → NameBehind (one ∷ two ∷ three ∷ text) name
behind_kind true one two three text name e = record { long = omega arith; rest = of_name text name e }
behind_kind false one two three text name e = absurd (cc)

behind_name : (text name : List ℕ) → name_behind text ≡ Some name → NameBehind text name
behind_name [] name e = absurd (cc)
behind_name (a ∷ []) name e = absurd (cc)
behind_name (a ∷ b ∷ []) name e = absurd (cc)
behind_name (a ∷ kind ∷ b ∷ text) name e = behind_kind _ a kind b text name e

-- a line that is a row has the row's parts at their places
record RowParts (line : List ℕ) (row : RowText) : Type 0 where
  pub digits : hex_number (take 16 line) ≡ Some row.listed
  pub behind : NameBehind (drop 16 line) row.name

digits_list : (b : Bool) (number : Option ℕ) (listed : ℕ) → (if b then number else None) ≡ Some listed → number ≡ Some listed
digits_list true number listed e = e
digits_list false number listed e = absurd (cc)

parted_row : (line : List ℕ) (listed : Option ℕ) (name : Option (List ℕ)) (row : RowText) → listed_in (take 16 line) ≡ listed → name_behind (drop 16 line) ≡ name → row_with listed name ≡ Some row → RowParts line row
parted_row line None name row is named e = absurd (cc)
parted_row line (Some listed) None row is named e = absurd (cc)
parted_row line (Some listed) (Some name) row is named e = record {
  digits = digits_list _ (hex_number (take 16 line)) row.listed (is ∙ cc);
  behind = behind_name (drop 16 line) row.name (named ∙ cc);
}

long_row : (b : Bool) (line : List ℕ) (row : RowText) → (if b then None else row_with (listed_in (take 16 line)) (name_behind (drop 16 line))) ≡ Some row → RowParts line row
long_row true line row e = absurd (cc)
long_row false line row e = parted_row line _ _ row refl refl e

row_parts : (line : List ℕ) (row : RowText) → row_of line ≡ Some row → RowParts line row
unfolding row_of
row_parts line row e = long_row (nat_lt (length line) 16) line row e

-- so the line's row is this one, and its symbol the row's
pub same_row : (line : List ℕ) (row : RowText) → row_of line ≡ Some row → row_in line ≡ Some row
same_row line row is =
    let parts : RowParts line row = row_parts line row is in
    let long : nat_lt (length line) 19 ≡ false = grind (arith, nat_tests, length-drop 16 line, parts.behind.long) in
    let name : drop 19 line ≡ row.name = sym (drop-drop 3 16 line) ∙ parts.behind.rest in
    rw long (rw parts.digits (rw name refl))

row_symbol : (from kaslr address : ℕ) (line : List ℕ) (row : RowText) → row_of line ≡ Some row → in_line from kaslr address line ≡ below from kaslr address row.listed row.name
row_symbol from kaslr address line row is = ap (λ (o : Option RowText). option_and_then (λ row. below from kaslr address row.listed row.name) o) (same_row line row is)

no_row : (from kaslr address number : ℕ) (listed : List RowText) → rows_from number [] ≡ Ok listed → None ≡ nearest from kaslr address listed
no_row from kaslr address number [] e = refl
no_row from kaslr address number (row ∷ rest) e = absurd (cc)

next_row : (from kaslr address number : ℕ) (line : List ℕ) (left : List (List ℕ)) (row : Option RowText) (rest : Result (List RowText) ℕ) (listed : List RowText)
    → row_of line ≡ row → ((others : List RowText) → rest ≡ Ok others → in_lines from kaslr address left ≡ nearest from kaslr address others) → row_before row number rest ≡ Ok listed
    → higher (in_line from kaslr address line) (in_lines from kaslr address left) ≡ nearest from kaslr address listed
next_row from kaslr address number line left None rest listed is next e = absurd (cc)
next_row from kaslr address number line left (Some row) (Err bad) listed is next e = absurd (cc)
next_row from kaslr address number line left (Some row) (Ok rest) [] is next e = absurd (cc)
next_row from kaslr address number line left (Some row) (Ok rest) (first ∷ others) is next e =
    let same : row ≡ first = cc in
    let after : rest ≡ others = cc in
    rw (row_symbol from kaslr address line row is) (rw (next rest refl) (rw same (rw after refl)))

-- and the symbol of lines that are rows is that of the rows
pub rows_symbol : (from kaslr address number : ℕ) (left : List (List ℕ)) (listed : List RowText) → rows_from number left ≡ Ok listed → in_lines from kaslr address left ≡ nearest from kaslr address listed
rows_symbol from kaslr address number [] listed e = no_row from kaslr address number listed e
rows_symbol from kaslr address number (line ∷ left) listed e =
    next_row from kaslr address number line left (row_of line) (rows_from (number + 1) left) listed refl (rows_symbol from kaslr address (number + 1) left) e

pub in_map : (from kaslr address : ℕ) (map : List ℕ) (listed : List RowText) → rows map ≡ Ok listed → in_lines from kaslr address (lines map) ≡ nearest from kaslr address listed
unfolding rows
in_map from kaslr address map listed e = rows_symbol from kaslr address 1 (lines map) listed e

pub higher_none : (a : Option SymbolAt) → higher a None ≡ a
higher_none None = refl
higher_none (Some a) = refl

in_image_or_not : (b : Bool) (from kaslr address : ℕ) (map : List ℕ) (listed : List RowText) → rows map ≡ Ok listed
    → (if b then in_lines from kaslr address (lines map) else None) ≡ (if b then nearest from kaslr address listed else None)
in_image_or_not true from kaslr address map listed e = in_map from kaslr address map listed e
in_image_or_not false from kaslr address map listed e = refl

pub symbols_are_rows : SymbolsAreRows
symbols_are_rows m listed address e parts =
    in_image_or_not (is_kept m.parts address) 0xffffffff80000000 m.kaslr address m.map.now listed e ∙ ap (λ (p : ImageParts). if is_kept p address then nearest 0xffffffff80000000 m.kaslr address listed else None) parts
