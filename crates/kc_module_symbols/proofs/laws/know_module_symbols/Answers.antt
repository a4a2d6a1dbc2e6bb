use Rattle.kc_module_symbols.proofs.SymbolLaws.{nearest_stands, none_names}
use Rattle.kc_module_symbols.proofs.laws.know_module_symbols.Goals as goal

pub returns-clause-stand : goal.returns-clause-stand
returns-clause-stand c = nearest_stands

pub returns-clause-none : goal.returns-clause-none
returns-clause-none c = none_names
