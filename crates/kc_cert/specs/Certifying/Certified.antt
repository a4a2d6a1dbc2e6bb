-- What the making of a certificate answers, and the parts of it.
use Rattle.std.specs.Prelude.{◌≡◌, ℕ, ◌<◌, ◌≤◌, true, List, [], ◌∷◌, ◌++◌, Option, Some, None, Result, Ok, Err, ⊤}
use Rattle.kc_outside.specs.Counts.{Rose}
use Rattle.kc_memory.specs.Image.{Image}
use Rattle.kc_found.specs.declared.found.WalkStop.{WalkStop}
use Rattle.kc_found.specs.declared.found.WalkStop.TheVariants as ends
use Rattle.kc_found.specs.declared.verdict.AuditCount.{AuditCount}
use Rattle.kc_found.specs.declared.verdict.Verdict.TheVariants as verdicts
use Rattle.kc_kinds.specs.declared.kind.Kind.{Kind}
use Rattle.kc_plan.specs.Planned.{AuditAt}
use Rattle.kc_kinds.specs.Structures.{nodes_of}
use Rattle.kc_plan.specs.Verdicts.{verdict}
use Rattle.kc_run.specs.Parts.{Relation, Tallied}
use Rattle.kc_cert.specs.declared.rechecking.against.CertAnswer.TheVariants.{Yes}
use Rattle.kc_cert.specs.declared.text.certificate.CertStep.{CertStep}
use Rattle.kc_cert.specs.declared.certifying.issue.CertStop.{CertStop}
use Rattle.kc_cert.specs.declared.certifying.issue.CertStop.TheVariants.{Broken, Fault, NoMemory}
use Rattle.kc_cert.specs.declared.certifying.pass.Draft.{Draft}
use Rattle.kc_cert.specs.Rechecking.Answers.{JudgesAs}
use Rattle.kc_cert.specs.Rechecking.Certificates.{Judge, answer, at, judging}
use Rattle.kc_cert.specs.Fits.Shapes.{is_shape}

-- a certificate of a clean dump: all its steps fit, with the counts of the verdict
abbrev pub Certifies : Image → List AuditAt → List CertStep → Type 0
Certifies image audits cert = (counts : List AuditCount) × (answer image audits cert ≡ Yes counts) × (verdict image audits ≡ verdicts.Clean counts)

-- Short of a failure and of being out of memory, a clean dump gets a certificate, and for one that isn't clean the violation of its
-- verdict is told.
abbrev pub CertifiesAs : Option Image → List AuditAt → Result (List CertStep) CertStop → Type 0
CertifiesAs None audits r = ⊤
CertifiesAs (Some i) audits (Ok cert) = Certifies i audits cert
CertifiesAs (Some i) audits (Err (Broken v)) = verdict i audits ≡ verdicts.Broken v
CertifiesAs (Some i) audits (Err Fault) = ⊤
CertifiesAs (Some i) audits (Err NoMemory) = ⊤

-- a violation names one of so many audits
abbrev pub NamesAudit : {A : Type 0} → Result A CertStop → ℕ → Type 0
NamesAudit (Ok x) audits = ⊤
NamesAudit (Err (Broken v)) audits = v.audit < audits
NamesAudit (Err Fault) audits = ⊤
NamesAudit (Err NoMemory) audits = ⊤

-- the count of failures rose where reading failed, and else it is as it was
abbrev pub CountsCertifyFaults : {A : Type 0} → Result A CertStop → ℕ → ℕ → Type 0
CountsCertifyFaults (Ok x) before after = after ≡ before
CountsCertifyFaults (Err (Broken v)) before after = after ≡ before
CountsCertifyFaults (Err Fault) before after = (before ≤ after) × Rose before after
CountsCertifyFaults (Err NoMemory) before after = after ≡ before

-- the lists are the shape of the structure of a kind that audit n walks from a start, or the walk has this violation
abbrev pub ShapesAs : Kind → ℕ → ℕ → Option Image → Result (List (List ℕ)) WalkStop → Type 0
ShapesAs kind n start None r = ⊤
ShapesAs kind n start (Some i) (Ok lists) = is_shape i kind n start lists ≡ true
ShapesAs kind n start (Some i) (Err (ends.Broken v)) = nodes_of i kind n start ≡ Err v
ShapesAs kind n start (Some i) (Err ends.Fault) = ⊤
ShapesAs kind n start (Some i) (Err ends.NoMemory) = ⊤

-- the list of a walk alone, or its stop
abbrev pub alone : Result (List ℕ) WalkStop → Result (List (List ℕ)) WalkStop
alone (Ok ns) = Ok (ns ∷ [])
alone (Err stop) = Err stop

-- it is told, unless no memory is left
abbrev pub IsSingle : Result (List ℕ) WalkStop → Result (List (List ℕ)) WalkStop → Type 0
IsSingle (Ok ns) (Ok lists) = lists ≡ ns ∷ []
IsSingle (Ok ns) (Err stop) = stop ≡ ends.NoMemory
IsSingle (Err stop) r = r ≡ Err stop

-- A part of the pass adds steps behind those that were made. Whatever follows them, they fit, and lead from the counts before to the
-- counts after.
abbrev pub Makes : {A I : Type 0} → (I → Judge) → Draft → Draft → Option I → Result A WalkStop → Type 0
Makes {A} judge before after image (Ok x) =
    (more : List CertStep) × (after.made ≡ before.made ++ more) × ((rest : List CertStep) → JudgesAs {A = A} judge (at (more ++ rest) before.counts) (at rest after.counts) image (Ok x))
Makes judge before after image (Err stop) = ⊤

-- what a part of a run makes of a draft: its steps, and the counts of their walks
abbrev pub Made : Relation Draft
Made image audits part before after r = Makes (λ i. judging i audits part) before after image r

abbrev pub Drafts : Relation Draft
Drafts image audits part before after r = Tallied image audits part before.counts after.counts r × Made image audits part before after r
