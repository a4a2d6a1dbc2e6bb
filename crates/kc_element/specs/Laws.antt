-- What an element has to do with the address of its violation, and a step of a member's path with its byte.
use Rattle.std.specs.Prelude.{◌≡◌, ◌<◌, ◌≤◌, ◌⊎◌, ℕ, ◌+◌, ◌*◌, ◌/◌, ◌^◌, List, ◌∷◌, [], Option, Some}
use Rattle.kc_btf.specs.Btf.{Types}
use Rattle.kc_btf.specs.declared.types.ArrayOf.{ArrayOf}
use Rattle.kc_btf.specs.declared.types.Member.{Member}
use Rattle.kc_btf.specs.declared.types.TypeRef.{TypeRef}
use Rattle.kc_memory.specs.declared.rule.Rule.{Rule}
use Rattle.kc_memory.specs.declared.rule.Rule.TheVariants.{C}
use Rattle.kc_layout.specs.Bare.{array_under, compound_under, members_numbered}
use Rattle.kc_layout.specs.Size.{size}
use Rattle.kc_layout.specs.declared.member_path.step.Label.{Label}
use Rattle.kc_layout.specs.declared.member_path.step.Label.TheVariants.{Name, Index}
use Rattle.kc_layout.specs.declared.member_path.step.Step.{Step}
use Rattle.kc_layout.specs.MemberPath.MemberPaths.{step_into}
use Rattle.kc_found.specs.Nodes.{at_offset}
use Rattle.kc_found.specs.Violations.{Violation}
use Rattle.kc_plan.specs.Planned.{AuditAt}
use Rattle.kc_element.specs.declared.element.Element.{Element}
use Rattle.kc_element.specs.Elements.{element_of}
use Rattle.kc_element.specs.Kinds.{kind_byte}

-- a check is about the whole element
abbrev pub byte_of : AuditAt → Rule → Option ℕ
byte_of a C = Some 0
byte_of a rule = kind_byte a.kind a.link rule

-- An address lies at a byte of an element, and so in its bytes, where its type is as large as that and ends below 2^64.
pub record LiesIn (e : Element) (at byte : ℕ) : Type 0 where
  pub into : at_offset e.at byte ≡ at
  pub held : (size : ℕ) → byte < size → e.at + size ≤ 2 ^ 64 → (e.at ≤ at) × (at < e.at + size)

-- the address of a violation lies in its element, at the byte that its rule is about
abbrev pub ElementsHold : Type 0
ElementsHold =
    (types : Types) (a : AuditAt) (v : Violation) (e : Element) → v.at < 2 ^ 64 → element_of types a v ≡ Some e
    → (byte : ℕ) × (byte_of a v.rule ≡ Some byte) × (byte < 2 ^ 64 → LiesIn e v.at byte)

-- one of some members
abbrev pub IsOne : Member → List Member → Type 0
IsOne m [] = ⊥
IsOne m (n ∷ ns) = (m ≡ n) ⊎ IsOne m ns

-- A part of a type: a member of the struct or union under its modifiers, or an element of the array there; and the byte at which it begins.
abbrev pub IsPart : Types → ℕ → Label → ℕ → ℕ → Type 0
IsPart types ty (Name name) part first =
    (t : TypeRef) × (m : Member) × (compound_under types ty ≡ Some t) × IsOne m (members_numbered types t.id) × (m.name ≡ name) × (m.ty ≡ part) × (m.bit / 8 ≡ first)
IsPart types ty (Index index) part first =
    (array : ArrayOf) × (each : ℕ) × (array_under types ty ≡ Some array) × (size types array.ty ≡ Some each) × (array.ty ≡ part) × (index * each ≡ first)

-- each step of a member's path leads to a part, and goes on at the byte of it that was looked for
abbrev pub StepsLeadBack : Type 0
StepsLeadBack =
    (types : Types) (ty byte : ℕ) (s : Step) → step_into types ty byte ≡ Some s
    → (first : ℕ) × IsPart types ty s.label s.ty first × (first + s.byte ≡ byte)
