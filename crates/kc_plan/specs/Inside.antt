-- Type numbers that are among so many. `read_plan` ensures it of those of a plan, over the types that it was read with.
use Rattle.std.specs.Prelude.{ℕ, ◌≤◌, List, All, IfSome}
use Rattle.kc_layout.specs.declared.place.Field.{Field}
use Rattle.kc_kinds.specs.Inside.{KindInside}
use Rattle.kc_plan.specs.declared.planned.Audit.{Audit}
use Rattle.kc_plan.specs.declared.planned.Check.{Check}
use Rattle.kc_plan.specs.declared.planned.Start.{Start}
use Rattle.kc_plan.specs.declared.planned.Start.TheVariants.{Root, From}

-- the types where an audit begins are among so many
abbrev pub StartsInside : ℕ → Start → Type 0
StartsInside count (Root symbol ty to) = (ty ≤ count) × (to.ty ≤ count)
StartsInside count (From to optional) = to.ty ≤ count

-- those of the fields of a check are
abbrev pub FieldsInside : ℕ → List Field → Type 0
FieldsInside count fields = All (λ (f : Field). f.ty ≤ count) fields

-- those of checks are
abbrev pub ChecksInside : ℕ → List Check → Type 0
ChecksInside count checks = All (λ (check : Check). FieldsInside count check.fields) checks

-- all types of an audit are
pub record IsInside (count : ℕ) (audit : Audit) : Type 0 where
  pub start : StartsInside count audit.start
  pub kind : KindInside count audit.kind
  pub element : IfSome audit.element (λ ty. ty ≤ count)
  pub checks : ChecksInside count audit.checks

-- and all types of a plan
abbrev pub AreInside : ℕ → List Audit → Type 0
AreInside count audits = All (IsInside count) audits
