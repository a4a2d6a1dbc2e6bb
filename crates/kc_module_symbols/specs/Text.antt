-- What is printed of the symbol of a module: its name, how many bytes the address is behind it, and the module's name.
use Rattle.std.specs.Prelude.{ℕ, List, ◌++◌, codes, decimal, map}
use Rattle.kc_text.specs.Text.{visible}
use Rattle.kc_module_symbols.specs.declared.told.ModuleSymbol.{ModuleSymbol}

abbrev pub symbol_line : ModuleSymbol → List ℕ → List ℕ
symbol_line s owner = codes "symbol " ++ map visible s.name ++ codes "+" ++ decimal s.byte ++ codes " [" ++ map visible owner ++ codes "]\n"
