-- What each rule says, in a sentence.
use Rattle.std.specs.Prelude.{ℕ, List}
use Rattle.kc_memory.specs.declared.rule.Rule.{Rule}
use Rattle.kc_rules.specs.Rules.{row_of}

-- what is wrong where it is broken
abbrev pub sentence : Rule → List ℕ
sentence rule = (row_of rule).says
