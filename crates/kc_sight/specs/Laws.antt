-- What is seen of an address is true of the dump.
use Rattle.std.specs.Prelude.{◌≡◌, ℕ, ◌≤◌, ◌⊎◌, List, [], ◌∷◌, Option, Some, None, IfSome, Ok}
use Rattle.std.specs.List.{AllByRecursion}
use Rattle.kc_memory.specs.Image.{Image}
use Rattle.kc_memory.specs.Places.{AllStandIn}
use Rattle.kc_syms.specs.Rows.{RowText, rows}
use Rattle.kc_sight.specs.declared.aliases.Rules.{Rules}
use Rattle.kc_sight.specs.declared.symbol.ImageMap.{ImageMap}
use Rattle.kc_sight.specs.Holders.{holders}
use Rattle.kc_sight.specs.Nearest.{SymbolAt, below, image_parts, image_symbol, nearest}
use Rattle.kc_sight.specs.Sights.{places, sight}
use Rattle.kc_sight.specs.Views.{image_symbols, symbols_from, symbols_holding}

-- each word stands in the dump, at the place where it is seen
abbrev pub SightsStand : Type 0
SightsStand = (image : Image) (rules : Rules) (address : ℕ) → AllStandIn image (places (sight image rules address))

-- the symbols of a map that is read are those of its rows, by its bytes, how far KASLR moved the image, and its parts
abbrev pub SymbolsAreRows : Type 0
SymbolsAreRows = (m : ImageMap) (listed : List RowText) (address : ℕ) → rows m.map.now ≡ Ok listed → m.parts ≡ image_parts m.kaslr listed → image_symbols m address ≡ image_symbol m.kaslr listed address

-- and so are those from an address on
abbrev pub SymbolsFromAreRows : Type 0
SymbolsFromAreRows = (m : ImageMap) (listed : List RowText) (from address : ℕ) → rows m.map.now ≡ Ok listed → symbols_from m from address ≡ nearest from m.kaslr address listed

-- a symbol is that of one of these rows, which isn't above an address
abbrev pub IsOneOf : ℕ → ℕ → ℕ → SymbolAt → List RowText → Type 0
IsOneOf from kaslr address s [] = ⊥
IsOneOf from kaslr address s (row ∷ rows) = (below from kaslr address row.listed row.name ≡ Some s) ⊎ IsOneOf from kaslr address s rows

-- and no other one, which isn't above the address, is higher
pub record IsNearest (from kaslr address : ℕ) (s : SymbolAt) (rows : List RowText) : Type 0 where
  pub one : IsOneOf from kaslr address s rows
  pub highest : AllByRecursion (λ (row : RowText). IfSome (below from kaslr address row.listed row.name) (λ t. t.address ≤ s.address)) rows

-- where there is none, each row's is above the address or not in the image
abbrev pub NearestIs : ℕ → ℕ → ℕ → List RowText → Option SymbolAt → Type 0
NearestIs from kaslr address rows None = AllByRecursion (λ (row : RowText). below from kaslr address row.listed row.name ≡ None) rows
NearestIs from kaslr address rows (Some s) = IsNearest from kaslr address s rows

abbrev pub SymbolsAreNearest : Type 0
SymbolsAreNearest = (from kaslr address : ℕ) (rows : List RowText) → NearestIs from kaslr address rows (nearest from kaslr address rows)

-- the symbols whose words hold a value are those of the rows
abbrev pub HoldersAreRows : Type 0
HoldersAreRows =
    (image : Image) (m : ImageMap) (listed : List RowText) (value : ℕ) → rows m.map.now ≡ Ok listed
    → symbols_holding image m value ≡ holders image m.parts m.kaslr value listed
