-- The symbols of a module. Source: the System V ABI's "Symbol Table", in the kernel's include/uapi/linux/elf.h `Elf64_Sym`: 24 bytes, of which the
-- first word has `st_name` in its lowest 32 bits and `st_shndx` in its highest 16, and the second word is `st_value`; kernel/module/kallsyms.c,
-- `find_kallsyms_symbol` and `kallsyms_symbol_value`, by which that is an address. The first symbol is none ("ELF starts real symbols at 1").
use Rattle.std.specs.Prelude.{ℕ, zero, suc, ◌*◌, ◌/◌, ◌%◌, ◌^◌, nat_le, if◌then◌else◌, ◌-◌, List, [], ◌∷◌, Option, Some, None}
use Rattle.kc_memory.specs.Image.{Image}
use Rattle.kc_found.specs.Nodes.{at_offset}
use Rattle.kc_kinds.specs.Members.{◌>>=◌}
use Rattle.kc_owner.specs.Known.{known}
use Rattle.kc_owner.specs.Rings.{word_at}
use Rattle.kc_module_symbols.specs.declared.shape.SymbolShape.{SymbolShape}
use Rattle.kc_module_symbols.specs.declared.symbol.ElfSymbol.{ElfSymbol}
use Rattle.kc_module_symbols.specs.declared.table.SymbolTable.{SymbolTable}

abbrev pub symbol_by : ℕ → ℕ → ElfSymbol
symbol_by head value = record { name = head % 2 ^ 32; section = head / 2 ^ 48; value = value }

abbrev pub symbol_at : Image → ℕ → Option ElfSymbol
symbol_at image at = do
  head ← word_at image at
  value ← word_at image (at_offset at 8)
  Some (symbol_by head value)

-- a module's table: where its symbols begin, how many they are, and where their names begin
abbrev pub table_at : Image → SymbolShape → ℕ → Option SymbolTable
table_at image shape owner = do
  at ← known image owner (Some shape.kallsyms)
  symbols ← known image at (Some shape.symbols)
  count ← known image at (Some shape.count)
  strings ← known image at (Some shape.strings)
  Some (record { symbols = symbols; count = count; strings = strings })

-- a symbol by its number
abbrev pub symbol_in : Image → SymbolTable → ℕ → Option ElfSymbol
symbol_in image table number = symbol_at image (at_offset table.symbols (24 * number))

-- so many symbols from a number on, where each of them can be read
unfoldable pub symbols_from : Image → SymbolTable → ℕ → ℕ → Option (List ElfSymbol)
symbols_from image table zero number = Some []
symbols_from image table (suc left) number = do
  s ← symbol_in image table number
  others ← symbols_from image table left (suc number)
  Some (s ∷ others)

-- all but the first, of a table of 2^20 symbols at most: of a longer one nothing is told
abbrev pub most_symbols : ℕ
most_symbols = 2 ^ 20

abbrev pub symbols_of : Image → SymbolTable → Option (List ElfSymbol)
symbols_of image table = if nat_le table.count most_symbols then symbols_from image table (table.count - 1) 1 else None
