-- What it says that step N of a certificate doesn't fit.
use Rattle.std.specs.Prelude.{◌≡◌, ℕ, ◌+◌, true, false, ◌⊎◌, ⊤, List, [], ◌∷◌, ◌++◌, length, slice_get, Some, Result, Ok, Err}
use Rattle.std.specs.List.{AllByRecursion}
use Rattle.kc_memory.specs.Image.{Image}
use Rattle.kc_memory.specs.Stopped.{Stopped}
use Rattle.kc_plan.specs.Planned.{AuditAt}
use Rattle.kc_plan.specs.Seen.{EndsAt, NullAt, PathEnd, is_optional, path_end, path_of}
use Rattle.kc_run.specs.Tally.{zeros}
use Rattle.kc_cert.specs.declared.text.certificate.CertStep.{CertStep}
use Rattle.kc_cert.specs.declared.rechecking.against.CertAnswer.TheVariants.{No}
use Rattle.kc_cert.specs.Fits.Fits.{fits}
use Rattle.kc_cert.specs.Rechecking.Certificates.{Progress, answer, at, roots_judged}

-- a step fits the dump as one of a walk of an audit of the plan
pub record FitsThere (image : Image) (audits : List AuditAt) (s : CertStep) : Type 0 where
  pub number : ℕ
  pub audit : AuditAt
  pub one : slice_get audits number ≡ Some audit
  pub start : ℕ
  pub fit : fits image number audit start s ≡ true

-- the first of these steps doesn't fit the walk of an audit from the start that comes next
pub record IsUnfit (image : Image) (audits : List AuditAt) (left : List CertStep) : Type 0 where
  pub number : ℕ
  pub audit : AuditAt
  pub one : slice_get audits number ≡ Some audit
  pub start : ℕ
  pub first : CertStep
  pub others : List CertStep
  pub parts : left ≡ first ∷ others
  pub unfit : fits image number audit start first ≡ false

-- an audit's path doesn't end: a word on it can't be read, or a pointer is null and the audit isn't optional
abbrev pub Stops : AuditAt → Result PathEnd Stopped → Type 0
Stops a (Err s) = ⊤
Stops a (Ok (NullAt place stands)) = is_optional a.start ≡ false
Stops a (Ok (EndsAt start)) = ⊥

pub record IsUnreached (image : Image) (audits : List AuditAt) : Type 0 where
  pub number : ℕ
  pub audit : AuditAt
  pub one : slice_get audits number ≡ Some audit
  pub base : ℕ
  pub stops : Stops audit (path_end image base (path_of audit.start).hops (path_of audit.start).byte)

-- no step is left for the walk that comes next, its step doesn't fit, or there is no such walk
abbrev pub Misfit : Image → List AuditAt → List CertStep → Type 0
Misfit image audits left = (left ≡ []) ⊎ (IsUnfit image audits left ⊎ IsUnreached image audits)

-- all walks have their steps, and there are more
pub record IsSurplus (image : Image) (audits : List AuditAt) (steps left : List CertStep) : Type 0 where
  pub end : Progress
  pub judged : roots_judged image audits (at steps (zeros audits)) ≡ Ok end
  pub over : end.left ≡ left

-- the steps before the one with a number fit, and it doesn't
pub record IsFirstMisfit (image : Image) (audits : List AuditAt) (steps : List CertStep) (number : ℕ) : Type 0 where
  pub before : List CertStep
  pub left : List CertStep
  pub parts : steps ≡ before ++ left
  pub counted : number ≡ length before + 1
  pub fit : AllByRecursion (FitsThere image audits) before
  pub why : IsSurplus image audits steps left ⊎ Misfit image audits left

abbrev pub MisfitsAreFirst : Type 0
MisfitsAreFirst = (image : Image) (audits : List AuditAt) (steps : List CertStep) (number : ℕ) → answer image audits steps ≡ No number → IsFirstMisfit image audits steps number
