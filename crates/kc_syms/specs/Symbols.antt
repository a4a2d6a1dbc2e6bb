-- What contracts see of the symbols of a map.
use Rattle.std.specs.Prelude.{ℕ, List}
use Rattle.kc_syms.specs.declared.symbols.Symbols.{Symbols}
use Rattle.kc_syms.specs.Listed.{listed}

-- the addresses that the rows of a name list, in the order of the rows; none where no row has the name
unfoldable pub symbol : Symbols → List ℕ → List ℕ
symbol symbols name = listed symbols.index name
