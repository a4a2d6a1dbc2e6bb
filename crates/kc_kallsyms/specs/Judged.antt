-- The answer of a step whose fault is a table's.
use Rattle.std.specs.Prelude.{◌≡◌, Result, Ok, Err}
use Rattle.kc_kallsyms.specs.declared.fault.TableFault.{TableFault}
use Rattle.kc_kallsyms.specs.Reading.{Bad, Why}

abbrev pub Judges : {A : Type 0} → Result A Why → Result A TableFault → Type 0
Judges truth (Ok a) = truth ≡ Ok a
Judges truth (Err fault) = truth ≡ Err (Bad fault)
