-- What the answer on a certificate says of the dump.
use Rattle.std.specs.Prelude.{◌≡◌, true, List, length, slice_get, Some}
use Rattle.std.specs.List.{AllZip}
use Rattle.kc_memory.specs.Image.{Image}
use Rattle.kc_found.specs.declared.verdict.AuditCount.{AuditCount}
use Rattle.kc_plan.specs.Events.{Event, Walk, Wrong}
use Rattle.kc_plan.specs.Planned.{AuditAt}
use Rattle.kc_plan.specs.Seen.{all_seen, world}
use Rattle.kc_cert.specs.declared.rechecking.against.CertAnswer.TheVariants.{Yes}
use Rattle.kc_cert.specs.declared.text.certificate.CertStep.{CertStep}
use Rattle.kc_cert.specs.Fits.Fits.{fits}
use Rattle.kc_cert.specs.Fits.Shapes.{nodes_in}
use Rattle.kc_cert.specs.Rechecking.Answers.{IsRight}
use Rattle.kc_cert.specs.Rechecking.Certificates.{answer}

-- a certificate fits a dump only where every structure that the plan reaches stands there, and has the counts of the verdict
abbrev pub AnswersAreRight : Type 0
AnswersAreRight = (image : Image) (audits : List AuditAt) (cert : List CertStep) → IsRight image audits (answer image audits cert)

-- a step is a walk that a verdict comes upon: it is of the same audit, fits it from the step's own start, and has as many nodes
abbrev pub IsWalk : Image → List AuditAt → CertStep → Event → Type 0
IsWalk image audits s (Walk n size) =
    (s.audit ≡ n) × (a : AuditAt) × (slice_get audits n ≡ Some a) × (fits image n a s.start s ≡ true) × (size ≡ length (nodes_in a.kind s.lists))
IsWalk image audits s (Wrong v) = ⊥

-- the steps of a certificate are the walks of the verdict, one by one and in its order
abbrev pub AreWalks : Image → List AuditAt → List CertStep → Type 0
AreWalks image audits cert = AllZip (IsWalk image audits) cert (all_seen (world image) audits)

-- so they are where it fits
abbrev pub StepsAreWalks : Type 0
StepsAreWalks = (image : Image) (audits : List AuditAt) (cert : List CertStep) (counts : List AuditCount) → answer image audits cert ≡ Yes counts → AreWalks image audits cert
