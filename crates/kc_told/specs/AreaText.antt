-- What is printed of the areas in which an address lies.
use Rattle.std.specs.Prelude.{ℕ, List, [], ◌++◌, codes, decimal, map, Option, Some, None, Result, Ok, Err}
use Rattle.kc_text.specs.Text.{visible}
use Rattle.kc_found.specs.Violations.{Violation}
use Rattle.kc_owner.specs.declared.area.areas.Areas.{Areas}
use Rattle.kc_owner.specs.declared.area.modules.InModule.{InModule}
use Rattle.kc_owner.specs.declared.area.processors.InProcessor.{InProcessor}
use Rattle.kc_owner.specs.declared.area.stacks.InStack.{InStack}
use Rattle.kc_module_symbols.specs.declared.told.ModuleSymbol.{ModuleSymbol}
use Rattle.kc_sight.specs.Nearest.{SymbolAt}
use Rattle.kc_told.specs.ModuleSymbols.{module_symbol_lines}
use Rattle.kc_told.specs.ObjectText.{unknown_text}
use Rattle.kc_told.specs.Text.{symbol_text}

-- a module, and the byte in the part of its memory that has the address
abbrev pub module_line : Result (Option InModule) Violation → List ℕ
module_line (Ok None) = []
module_line (Ok (Some m)) = codes "module " ++ map visible m.name ++ codes "+" ++ decimal m.byte ++ codes "\n"
module_line (Err v) = codes "module" ++ unknown_text v

-- what a processor's area has a copy of: a symbol, and how many bytes behind it
abbrev pub variable_text : Option SymbolAt → ℕ → List ℕ
variable_text None variable = []
variable_text (Some s) variable = codes " " ++ symbol_text s variable

-- a processor's number, and the symbol of its area, by the symbols from an address on
abbrev pub processor_line : (ℕ → ℕ → Option SymbolAt) → Result (Option InProcessor) Violation → List ℕ
processor_line from (Ok None) = []
processor_line from (Ok (Some p)) = codes "percpu " ++ decimal p.number ++ variable_text (from p.start p.variable) p.variable ++ codes "\n"
processor_line from (Err v) = codes "percpu" ++ unknown_text v

-- a task's number and its name, and the byte of its stack
abbrev pub stack_line : Result (Option InStack) Violation → List ℕ
stack_line (Ok None) = []
stack_line (Ok (Some s)) = codes "stack " ++ decimal s.pid ++ codes " " ++ map visible s.comm ++ codes "+" ++ decimal s.byte ++ codes "\n"
stack_line (Err v) = codes "stack" ++ unknown_text v

-- all of them, with the symbol of the module
abbrev pub area_lines : (ℕ → ℕ → Option SymbolAt) → Areas → Option ModuleSymbol → List ℕ
area_lines from a symbol =
    module_line a.module_found ++ module_symbol_lines a.module_found symbol ++ processor_line from a.processor_found ++ stack_line a.stack_found
