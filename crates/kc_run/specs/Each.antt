-- Verdicts on root audits, one by one, where the memory is told or not.
use Rattle.std.specs.Prelude.{◌≡◌, ℕ, List, ◌++◌, slice_get, IfSome, Option, Some, None, option_and_then}
use Rattle.std.specs.List.{AllZip}
use Rattle.kc_memory.specs.Image.{Image}
use Rattle.kc_found.specs.declared.asked.Asked.{Asked}
use Rattle.kc_found.specs.declared.verdict.RootVerdict.{RootVerdict}
use Rattle.kc_plan.specs.Planned.{AuditAt, StartAt}
use Rattle.kc_plan.specs.Planned.StartAt.{RootAt, FromAt}
use Rattle.kc_plan.specs.Roots.{FitsRoot, Root, root_verdict}

-- a root audit as it is asked for
abbrev pub asked_root : Asked → Root
asked_root asked = (asked.audit, asked.start)

-- the root audit with a number, where the audit with this number begins at a symbol
abbrev pub root_from : ℕ → StartAt → Option Root
root_from number (RootAt symbol ty to) = Some (number, symbol)
root_from number (FromAt to optional) = None

abbrev pub root_at : ℕ → List AuditAt → Option Root
root_at number audits = option_and_then (λ (a : AuditAt). root_from number a.start) (slice_get audits number)

-- the verdict on a root audit of so many audits
pub record IsRoot (image : Option Image) (count : ℕ) (audits : List AuditAt) (r : Root) (found : RootVerdict) : Type 0 where
  pub exact : IfSome image (λ i. root_verdict i audits r ≡ found)
  pub root : found.root ≡ r.0
  pub fits : FitsRoot count audits found

-- the verdicts on these root audits are added
pub record AddsRoots (image : Option Image) (count : ℕ) (audits : List AuditAt) (rs : List Root) (before after : List RootVerdict) : Type 0 where
  pub more : List RootVerdict
  pub whole : after ≡ before ++ more
  pub are : AllZip (IsRoot image count audits) rs more
