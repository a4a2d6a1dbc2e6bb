-- A rule as it is written: by its code.
use Rattle.std.specs.Prelude.{map}
use Rattle.kc_memory.specs.declared.rule.Rule.{Rule}
use Rattle.kc_text.specs.Format.{Format}
use Rattle.kc_text.specs.Readers.{one_of}
use Rattle.kc_text.specs.Compose.{mapped}
use Rattle.kc_rules.specs.declared.table.Coded.{Coded}
use Rattle.kc_rules.specs.Rules.{row_of, rules}

abbrev pub coded : Rule → Coded
coded rule = record { 0 = rule }

abbrev pub code_format : Format Coded
code_format = one_of (λ c. (row_of c.0).code) (map coded rules)

abbrev pub rule_format : Format Rule
rule_format = mapped (λ c. c.0) (λ _. Unit {0}) (λ rule. (row_of rule).code) code_format
