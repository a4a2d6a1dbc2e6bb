-- What contracts see of the code's data.
use Rattle.std.specs.Prelude.{ℕ, if◌then◌else◌, List, map, Option, None}
use Rattle.kc_memory.specs.Image.{Image}
use Rattle.kc_syms.specs.Rows.{RowText, lines}
use Rattle.kc_sight.specs.declared.symbol.ImageMap.{ImageMap}
use Rattle.kc_sight.specs.declared.symbol.Row.{Row}
use Rattle.kc_sight.specs.declared.symbol.Symbol.{Symbol}
use Rattle.kc_sight.specs.declared.sight.Sight.{Sight as CodeSight}
use Rattle.kc_sight.specs.Holders.{holding}
use Rattle.kc_sight.specs.Lines.{in_lines, row_in}
use Rattle.kc_sight.specs.Nearest.{SymbolAt, is_kept}
use Rattle.kc_sight.specs.Sights.{Sight}

abbrev pub row_view : Row → RowText
row_view r = record { listed = r.listed; name = r.name.now }

abbrev pub symbol_view : Symbol → SymbolAt
symbol_view s = record { name = s.name.now; address = s.address }

-- the symbols of the image that a map tells, by its lines
abbrev pub image_symbols : ImageMap → ℕ → Option SymbolAt
image_symbols m address = if is_kept m.parts address then in_lines 0xffffffff80000000 m.kaslr address (lines m.map.now) else None

-- and those from an address on
abbrev pub symbols_from : ImageMap → ℕ → ℕ → Option SymbolAt
symbols_from m from address = in_lines from m.kaslr address (lines m.map.now)

abbrev pub sight_view : CodeSight → Sight
sight_view s = record { address = s.address; entries = s.entries.items; word = s.word; aliases = s.aliases; near = s.near.items; page = s.page.items }

-- the symbols whose word in the image's data holds a value, by the map's lines
abbrev pub symbols_holding : Image → ImageMap → ℕ → List SymbolAt
symbols_holding image m value = holding image m.parts m.kaslr value (map row_in (lines m.map.now))
