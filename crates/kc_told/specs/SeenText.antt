-- What is printed of an address.
use Rattle.std.specs.Prelude.{ℕ, List, ◌++◌, Option}
use Rattle.kc_syms.specs.Rows.{RowText}
use Rattle.kc_sight.specs.declared.symbol.ImageMap.{ImageMap}
use Rattle.kc_sight.specs.Nearest.{SymbolAt, image_symbol, nearest}
use Rattle.kc_sight.specs.Sights.{Sight}
use Rattle.kc_sight.specs.Views.{image_symbols, symbols_from}
use Rattle.kc_told.specs.AreaText.{area_lines}
use Rattle.kc_told.specs.declared.near.NearWord.{NearWord}
use Rattle.kc_told.specs.Inside.{cover_lines, object_at}
use Rattle.kc_told.specs.Named.{named_line}
use Rattle.kc_told.specs.Objects.{Told}
use Rattle.kc_told.specs.ObjectText.{object_lines}
use Rattle.kc_told.specs.Text.{head_lines, sight_lines, symbol_line}

-- a map's symbols: that of an address of the image, and that of an address, of those from another one on
pub record MapSymbols : Type 0 where
  pub image : ℕ → Option SymbolAt
  pub from : ℕ → ℕ → Option SymbolAt

-- those of its rows
abbrev pub symbols_by : ℕ → List RowText → MapSymbols
symbols_by kaslr rows = record { image = image_symbol kaslr rows; from = λ from address. nearest from kaslr address rows }

-- as the code finds them
abbrev pub map_symbols : ImageMap → MapSymbols
map_symbols m = record { image = image_symbols m; from = symbols_from m }

-- what holds an address, what its object says it is, and how words that say the same lie in it
abbrev pub holding_lines : ℕ → Told → List ℕ
holding_lines address t = object_lines t.holders t.kept t.frame t.held ++ named_line t.named ++ cover_lines address t.span (object_at t.held)

-- all lines
abbrev pub seen_text : MapSymbols → Sight → Told → List NearWord → List ℕ
seen_text m s t near =
    head_lines m.image s.address ++ area_lines m.from t.areas t.symbol ++ sight_lines m.image s near ++ holding_lines s.address t

-- what is told of an address alone: its symbol, its areas with that of its module, and what holds it
abbrev pub told_lines : MapSymbols → ℕ → Told → List ℕ
told_lines m address t = symbol_line (m.image address) address ++ area_lines m.from t.areas t.symbol ++ holding_lines address t
