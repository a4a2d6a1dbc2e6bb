-- What a command replies: what it shows, a certificate, or what one comes to.
use Rattle.std.specs.Prelude.{◌≡◌, ⊤, ℕ, List, [], ◌++◌, codes, decimal}
use Rattle.kc_memory.specs.Image.{Image}
use Rattle.kc_found.specs.declared.verdict.AuditCount.{AuditCount}
use Rattle.kc_plan.specs.Planned.{AuditAt}
use Rattle.kc_cert.specs.declared.rechecking.against.CertAnswer.{CertAnswer}
use Rattle.kc_cert.specs.declared.rechecking.against.CertAnswer.TheVariants.{Yes, No}
use Rattle.kc_cert.specs.declared.text.certificate.CertStep.{CertStep}
use Rattle.kc_cert.specs.Rechecking.Certificates.{answer}
use Rattle.kc_cert.specs.Text.CertTexts.{IsCertificate, cert_text}
use Rattle.kc_command.specs.Made.{◌>>=◌, Made, gives}
use Rattle.kc_command.specs.declared.ends.status.Status.{Status}
use Rattle.kc_command.specs.declared.ends.status.Status.TheVariants.{Done, Broken}
use Rattle.kc_command.specs.Ends.Asked.{Asked}
use Rattle.kc_command.specs.Ends.Written.{Written}
use Rattle.kc_app.specs.Shown.{Shown, shown_status, shown_text}

-- of a certificate a reply has the memory and the audits: a dump has at most one
pub data Reply : Type 0 where
  Shows : Shown → Reply
  CertificateOf : Image → List AuditAt → Reply
  Rechecks : CertAnswer → Reply

-- the line of what a certificate comes to
abbrev pub answer_line : CertAnswer → List ℕ
answer_line (Yes counts) = codes "yes\n"
answer_line (No k) = codes "no step " ++ decimal k ++ codes "\n"

abbrev pub answer_status : CertAnswer → Status
answer_status (Yes counts) = Done
answer_status (No k) = Broken

-- the text of a reply, where the certificate is this one
abbrev pub reply_text : List CertStep → Reply → List ℕ
reply_text cert (Shows shown) = shown_text shown
reply_text cert (CertificateOf image audits) = cert_text cert
reply_text cert (Rechecks found) = answer_line found

abbrev pub reply_status : Reply → Status
reply_status (Shows shown) = shown_status shown
reply_status (CertificateOf image audits) = Done
reply_status (Rechecks found) = answer_status found

abbrev pub reply_written : List CertStep → Reply → Written
reply_written cert reply = record { out = reply_text cert reply; err = []; status = reply_status reply }

-- it is a certificate of the memory: it has a text, and each of its steps fits
pub record Proves (cert : List CertStep) (image : Image) (audits : List AuditAt) : Type 0 where
  pub spells : IsCertificate (cert_text cert) cert
  pub counts : List AuditCount
  pub fits : answer image audits cert ≡ Yes counts

-- so a certificate is, where one is the reply
abbrev pub Fits : List CertStep → Reply → Type 0
Fits cert (Shows shown) = ⊤
Fits cert (CertificateOf image audits) = Proves cert image audits
Fits cert (Rechecks found) = ⊤

-- what is shown, as a reply
abbrev pub shows_made : Made Shown → Made Reply
shows_made made = made >>= (λ shown. gives (Shows shown))

abbrev pub shows : Asked Shown → Asked Reply
shows asked = record { named = asked.named; made = λ files. shows_made (asked.made files) }
