-- The list of rules has each of them, and each is read back from its code.
use Rattle.std.proofs.Common.{List, [], ◌∷◌, map, refl, ap, inl, inr, lit≤}
use Rattle.kc_memory.specs.declared.rule.Rule.{Rule}
use Rattle.kc_memory.specs.contracts.rule.Rule.{the_type}
use Rattle.kc_text.specs.Format.{Anything, IsFormat}
use Rattle.kc_text.specs.Readers.{IsAmong}
use Rattle.kc_text.proofs.FormatLaws.{mapped-law}
use Rattle.kc_rules.specs.declared.table.Coded.{Coded}
use Rattle.kc_rules.specs.Codes.{code_format, coded, rule_format}
use Rattle.kc_rules.specs.Laws.{CodesReadBack, HasEveryRule}
use Rattle.kc_rules.specs.Rules.{row_of, rules}
use Rattle.kc_rules.proofs.Apart.{apart-law}
use Rattle.kc_rules.proofs.Every.{every}

pub every_rule : HasEveryRule
every_rule rule = every the_type tt rules refl refl rule

-- none of the codes begins another
code-law : IsFormat code_format
code-law = apart-law (λ (c : Coded). (row_of c.0).code) (map coded rules) (lit≤ tt) refl

among_coded : (xs : List Rule) (rule : Rule) → IsAmong rule xs → IsAmong (coded rule) (map coded xs)
among_coded [] rule among = absurd among
among_coded (x ∷ xs) rule (inl same) = inl (ap coded same)
among_coded (x ∷ xs) rule (inr more) = inr (among_coded xs rule more)

pub rule-law : IsFormat rule_format
rule-law =
    mapped-law (λ c. c.0) (λ _. Unit {0}) (λ rule. (row_of rule).code) Anything code_format code-law
    (λ c good. (tt, refl)) (λ rule good. (coded rule, among_coded rules rule (every_rule rule), refl))

pub codes_read_back : CodesReadBack
codes_read_back rule rest = rule-law.again rule rest tt tt
