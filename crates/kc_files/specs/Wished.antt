-- What is wished of the memory of a dump.
use Rattle.std.specs.Prelude.{ℕ, List, Result}
use Rattle.kc_memory.specs.Image.{Image}
use Rattle.kc_kallsyms.specs.Map.{map_at}
use Rattle.kc_kallsyms.specs.Types.{types_at}
use Rattle.kc_modules.specs.Lines.{modules_at}
use Rattle.kc_modules.specs.Typed.{module_types_at}
use Rattle.kc_printk.specs.Log.{log_of}
use Rattle.kc_files.specs.Reading.{Why, by_log, by_tables}
use Rattle.kc_files.specs.Sought.{SoughtAt, MapBy, TypesBy, LogBy, ModulesBy, ModuleBy}

-- the map of the kernel, its types, its log, its modules, or the types of one
abbrev pub wished : SoughtAt → Image → ℕ → Result (List ℕ) Why
wished (MapBy places) image kaslr = by_tables (map_at image kaslr places)
wished (TypesBy places) image kaslr = by_tables (types_at image kaslr places)
wished (LogBy note) image kaslr = by_log (log_of image note)
wished (ModulesBy places) image kaslr = by_tables (modules_at image kaslr places)
wished (ModuleBy places name) image kaslr = by_tables (module_types_at image kaslr places name)
