-- What is told of the symbol of a module: its name, and how many bytes the address is behind it. The kernel's KSYM_NAME_LEN is 128, later 512
-- (include/linux/kallsyms.h): of a name 255 bytes are looked at.
use Rattle.std.specs.Prelude.{ℕ, Option, Some, option_and_then}
use Rattle.kc_memory.specs.Image.{Image}
use Rattle.kc_found.specs.Nodes.{at_offset}
use Rattle.kc_kinds.specs.Members.{◌>>=◌}
use Rattle.kc_owner.specs.declared.area.modules.InModule.{InModule}
use Rattle.kc_owner.specs.Area.Processors.{less}
use Rattle.kc_owner.specs.Texts.{byte_at, text}
use Rattle.kc_module_symbols.specs.declared.nearest.Sought.{Sought}
use Rattle.kc_module_symbols.specs.declared.shape.SymbolShape.{SymbolShape}
use Rattle.kc_module_symbols.specs.declared.symbol.ElfSymbol.{ElfSymbol}
use Rattle.kc_module_symbols.specs.declared.table.SymbolTable.{SymbolTable}
use Rattle.kc_module_symbols.specs.declared.told.ModuleSymbol.{ModuleSymbol}
use Rattle.kc_module_symbols.specs.Nearest.{nearest_in}
use Rattle.kc_module_symbols.specs.Symbols.{table_at}

-- where its first byte can be read
abbrev pub symbol_named : Image → Sought → ElfSymbol → Option ModuleSymbol
symbol_named image sought s = do
  first ← byte_at image (at_offset sought.strings s.name)
  Some (record { name = text image 255 (at_offset sought.strings s.name); byte = less sought.address s.value })

abbrev pub symbol_told : Image → Sought → SymbolTable → Option ModuleSymbol
symbol_told image sought table = option_and_then (symbol_named image sought) (nearest_in image sought table)

-- what is looked for: the part of the memory begins as many bytes before the address as this is the byte of
abbrev pub sought_in : InModule → ℕ → SymbolTable → Sought
sought_in m address table = record { start = less address m.byte; address = address; strings = table.strings }

-- that of the module that has an address
abbrev pub module_symbol : Image → SymbolShape → InModule → ℕ → Option ModuleSymbol
module_symbol image shape m address =
    option_and_then (λ table. symbol_told image (sought_in m address table) table) (table_at image shape m.at)
