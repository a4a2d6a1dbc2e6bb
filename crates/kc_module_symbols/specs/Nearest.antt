-- The symbol of a module that stands nearest below an address of its memory. Source: the kernel's kernel/module/kallsyms.c, `find_kallsyms_symbol`:
-- of the symbols but the first that are defined (`st_shndx` isn't SHN_UNDEF, 0), that have a name and that stand at or below the address, the one
-- with the greatest value, of equal ones the first. Beyond the kernel's, its value is in the same part of the module's memory: what stands before
-- the part's first byte (a per-CPU variable, an absolute number, another part) names no byte of it.
use Rattle.std.specs.Prelude.{Bool, true, ◌-◌, not, nat_eq, nat_le, nat_lt, ◌&&◌, if◌then◌else◌, List, [], ◌∷◌, Option, Some, None, option_and_then}
use Rattle.kc_memory.specs.Image.{Image}
use Rattle.kc_found.specs.Nodes.{at_offset}
use Rattle.kc_module_symbols.specs.declared.nearest.Best.{Best}
use Rattle.kc_module_symbols.specs.declared.nearest.Sought.{Sought}
use Rattle.kc_module_symbols.specs.declared.symbol.ElfSymbol.{ElfSymbol}
use Rattle.kc_module_symbols.specs.declared.table.SymbolTable.{SymbolTable}
use Rattle.kc_module_symbols.specs.Names.{is_named_at}
use Rattle.kc_module_symbols.specs.Symbols.{symbols_from, symbols_of}

-- it is defined, and stands at or below the address in its part of the memory
abbrev pub stands : Sought → ElfSymbol → Bool
stands sought s = not (nat_eq s.section 0) && (nat_le sought.start s.value && nat_le s.value sought.address)

-- and it has a name
abbrev pub may_name : Image → Sought → ElfSymbol → Bool
may_name image sought s = stands sought s && is_named_at image (at_offset sought.strings s.name)

-- of some symbols those that may name an address
abbrev pub if_names : (ElfSymbol → Bool) → ElfSymbol → Option ElfSymbol
if_names may s = if may s then Some s else None

-- a symbol stands nearer than the best so far
abbrev pub is_nearer : Option ElfSymbol → ElfSymbol → Bool
is_nearer None s = true
is_nearer (Some best) s = nat_lt best.value s.value

-- the nearer one of two, and of two with one value the first
abbrev pub nearer : Option ElfSymbol → Option ElfSymbol → Option ElfSymbol
nearer best None = best
nearer best (Some s) = if is_nearer best s then Some s else best

-- the nearest of a list
unfoldable pub nearest : (ElfSymbol → Bool) → List ElfSymbol → Option ElfSymbol
nearest may [] = None
nearest may (s ∷ others) = nearer (if_names may s) (nearest may others)

-- the best so far, with one more
abbrev pub best_with : (ElfSymbol → Bool) → Best → ElfSymbol → Best
best_with may best s = record { symbol = nearer best.symbol (if_names may s) }

-- that of a table, where each of its symbols can be read
abbrev pub nearest_of : Image → Sought → SymbolTable → Option ElfSymbol
nearest_of image sought table = option_and_then (nearest (may_name image sought)) (symbols_from image table (table.count - 1) 1)

-- and where it isn't too long
abbrev pub nearest_in : Image → Sought → SymbolTable → Option ElfSymbol
nearest_in image sought table = option_and_then (nearest (may_name image sought)) (symbols_of image table)
