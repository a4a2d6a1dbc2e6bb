-- The rows of a map so far.
use Rattle.std.specs.Prelude.{◌≡◌, List, ◌++◌}
use Rattle.kc_kallsyms.specs.declared.map.Lines.{Lines}
use Rattle.kc_kallsyms.specs.Map.{lines}
use Rattle.kc_kallsyms.specs.Symbols.{Symbol}

pub record LinesFrom (first now : Lines) (symbols : List Symbol) : Type 0 where
  pub frame : now.frame ≡ first.frame
  pub text : now.text.items ≡ first.text.items ++ lines first.frame symbols
