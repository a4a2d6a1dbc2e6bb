-- The element that a violation is about, by its rule, the kind of its audit, and its address.
use Rattle.std.specs.Prelude.{Option}
use Rattle.kc_btf.specs.Btf.{Types}
use Rattle.kc_memory.specs.declared.rule.Rule.{Rule}
use Rattle.kc_memory.specs.declared.rule.Rule.TheVariants.{C}
use Rattle.kc_found.specs.Violations.{Violation}
use Rattle.kc_plan.specs.Planned.{AuditAt}
use Rattle.kc_element.specs.declared.element.Element.{Element}
use Rattle.kc_element.specs.Kinds.{kind_element, typed_at}

-- a check is about an element of its audit
abbrev pub by_rule : Types → AuditAt → Violation → Rule → Option Element
by_rule types a v C = typed_at a.element 0 v.at
by_rule types a v rule = kind_element types a v

abbrev pub element_of : Types → AuditAt → Violation → Option Element
element_of types a v = by_rule types a v v.rule
