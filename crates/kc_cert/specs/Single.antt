-- That a dump has one certificate.
use Rattle.std.specs.Prelude.{◌≡◌, ℕ, true, List}
use Rattle.kc_memory.specs.Image.{Image}
use Rattle.kc_found.specs.declared.verdict.AuditCount.{AuditCount}
use Rattle.kc_kinds.specs.declared.kind.Kind.{Kind}
use Rattle.kc_plan.specs.Planned.{AuditAt}
use Rattle.kc_cert.specs.declared.rechecking.against.CertAnswer.TheVariants.{Yes}
use Rattle.kc_cert.specs.declared.text.certificate.CertStep.{CertStep}
use Rattle.kc_cert.specs.Rechecking.Certificates.{answer}
use Rattle.kc_cert.specs.Fits.Shapes.{is_shape}

-- a structure has one shape
abbrev pub ShapesAreOne : Type 0
ShapesAreOne = (i : Image) (kind : Kind) (n start : ℕ) (lists others : List (List ℕ)) → is_shape i kind n start lists ≡ true → is_shape i kind n start others ≡ true → lists ≡ others

-- so a clean dump has one certificate
abbrev pub CertificatesAreOne : Type 0
CertificatesAreOne =
    (i : Image) (audits : List AuditAt) (cert other : List CertStep) (counts counted : List AuditCount) → answer i audits cert ≡ Yes counts → answer i audits other ≡ Yes counted → cert ≡ other
