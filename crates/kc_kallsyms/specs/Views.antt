-- What contracts see of the code's structs.
use Rattle.std.specs.Prelude.{ℕ, List, map}
use Rattle.std.specs.Global.{Vec}
use Rattle.kc_bytes.specs.declared.cursor.Cursor.{Cursor}
use Rattle.kc_kallsyms.specs.declared.kernel.ListStart.{ListStart as CodeStart}
use Rattle.kc_kallsyms.specs.declared.symbol.Symbol.{Symbol as CodeSymbol}
use Rattle.kc_kallsyms.specs.declared.tables.Tables.{Tables as CodeTables}
use Rattle.kc_kallsyms.specs.declared.walk.Walk.{Walk}
use Rattle.kc_kallsyms.specs.Modules.{ListStart}
use Rattle.kc_kallsyms.specs.Symbols.{Entry, Spot, Symbol}
use Rattle.kc_kallsyms.specs.Tables.{Tables}

abbrev pub tokens_view : List (Vec ℕ) → List (List ℕ)
tokens_view tokens = map (λ t. t.items) tokens

abbrev pub tables_view : CodeTables → Tables
tables_view t = record { count = t.count; base = t.base; tokens = tokens_view t.tokens.items }

abbrev pub start_view : CodeStart → ListStart
start_view s = record { types = s.types.items; head = s.head }

abbrev pub symbol_view : CodeSymbol → Symbol
symbol_view s = record { letter = s.letter; name = s.name.now; offset = s.offset }

-- where a walk stands, and what it read last
abbrev pub spot_of : Cursor → Cursor → Spot
spot_of names offsets = record { name = names.at; offset = offsets.at }

abbrev pub entry_view : Walk → ℕ → Entry
entry_view w offset = record { text = w.text.items; offset = offset; next = spot_of w.names w.offsets }
