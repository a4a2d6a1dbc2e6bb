-- What the table of rules is.
use Rattle.std.specs.Prelude.{◌≡◌, List, ◌++◌, ℕ, Ok}
use Rattle.kc_memory.specs.declared.rule.Rule.{Rule}
use Rattle.kc_text.specs.Readers.{IsAmong}
use Rattle.kc_rules.specs.Codes.{rule_format}
use Rattle.kc_rules.specs.Rules.{row_of, rules}

-- each rule is in the list
abbrev pub HasEveryRule : Type 0
HasEveryRule = (rule : Rule) → IsAmong rule rules

-- a rule is read back from its code, whatever follows
abbrev pub CodesReadBack : Type 0
CodesReadBack = (rule : Rule) (rest : List ℕ) → rule_format.read ((row_of rule).code ++ rest) ≡ Ok (rule, rest)
