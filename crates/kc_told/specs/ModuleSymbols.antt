-- The symbol of the module that has an address, and the line of that.
use Rattle.std.specs.Prelude.{ℕ, List, [], Option, Some, None, Result, Ok, Err}
use Rattle.kc_memory.specs.Image.{Image}
use Rattle.kc_found.specs.Violations.{Violation}
use Rattle.kc_owner.specs.declared.area.modules.InModule.{InModule}
use Rattle.kc_module_symbols.specs.declared.shape.SymbolShape.{SymbolShape}
use Rattle.kc_module_symbols.specs.declared.told.ModuleSymbol.{ModuleSymbol}
use Rattle.kc_module_symbols.specs.Text.{symbol_line}
use Rattle.kc_module_symbols.specs.Told.{module_symbol}

-- where the kernel has the words that tell it
abbrev pub symbol_of : Image → Option SymbolShape → InModule → ℕ → Option ModuleSymbol
symbol_of image None m address = None
symbol_of image (Some shape) m address = module_symbol image shape m address

-- where a module is told
abbrev pub symbol_in : Image → Option SymbolShape → ℕ → Result (Option InModule) Violation → Option ModuleSymbol
symbol_in image shape address (Ok (Some m)) = symbol_of image shape m address
symbol_in image shape address (Ok None) = None
symbol_in image shape address (Err v) = None

abbrev pub module_symbol_lines : Result (Option InModule) Violation → Option ModuleSymbol → List ℕ
module_symbol_lines (Ok (Some m)) (Some s) = symbol_line s m.name
module_symbol_lines (Ok (Some m)) None = []
module_symbol_lines (Ok None) symbol = []
module_symbol_lines (Err v) symbol = []
