-- What the code answers on a certificate, and where there is none.
use Rattle.std.specs.Prelude.{◌≡◌, ⊤, ℕ, List, [], Result, Ok, Err}
use Rattle.kc_found.specs.declared.verdict.Verdict.TheVariants as verdicts
use Rattle.kc_plan.specs.Verdicts.{verdict_places}
use Rattle.kc_cert.specs.declared.rechecking.against.CertAnswer.{CertAnswer}
use Rattle.kc_cert.specs.declared.text.certificate.CertStep.{CertStep}
use Rattle.kc_cert.specs.declared.certifying.issue.CertStop.{CertStop}
use Rattle.kc_cert.specs.declared.certifying.issue.CertStop.TheVariants.{Broken, Fault, NoMemory}
use Rattle.kc_found.specs.declared.failed.ReadFailed.{ReadFailed}
use Rattle.kc_found.specs.declared.failed.ReadFailed.TheVariants as stops
use Rattle.kc_cert.specs.Certifying.Certified.{NamesAudit}
use Rattle.kc_cert.specs.Text.CertTexts.{IsCertificate, cert_text}
use Rattle.kc_command.specs.declared.halt.Halt.{Halt}
use Rattle.kc_command.specs.declared.halt.Halt.TheVariants as halts
use Rattle.kc_command.specs.declared.ends.answer.Answer.{Answer}
use Rattle.kc_command.specs.declared.ends.status.Status.TheVariants as status
use Rattle.kc_command.specs.Ends.Answers.{written_by}
use Rattle.kc_app.specs.Answer.{Writes, WritesText}
use Rattle.kc_app.specs.Check.{verdict_said}
use Rattle.kc_app.specs.Reply.{answer_line, answer_status}

-- its text is written, with status 0
abbrev pub IsSpelled : List CertStep → Result Answer Halt → Type 0
IsSpelled cert (Ok answer) = IsCertificate (cert_text cert) cert × (written_by answer ≡ record { out = cert_text cert; err = []; status = status.Done })
IsSpelled cert (Err (halts.Refused refusal)) = ⊥
IsSpelled cert (Err halts.Store) = ⊥
IsSpelled cert (Err halts.Memory) = ⊤

-- a violation is told as `check` tells it, and a failure of the space is one of the store
abbrev pub IsUnclean : List (List ℕ) → CertStop → Result Answer Halt → Type 0
IsUnclean names (Broken found) r = Writes (verdict_said names (verdicts.Broken found)) (verdict_places (verdicts.Broken found)) r
IsUnclean names Fault r = r ≡ Err halts.Store
IsUnclean names NoMemory r = r ≡ Err halts.Memory

-- a violation names one of so many audits
abbrev pub NamesIn : ℕ → CertStop → Type 0
NamesIn n stop = NamesAudit {A = List CertStep} (Err stop) n

abbrev pub IsMade : List (List ℕ) → Result (List CertStep) CertStop → Result Answer Halt → Type 0
IsMade names (Ok cert) r = IsSpelled cert r
IsMade names (Err stop) r = IsUnclean names stop r

-- what a certificate comes to is told, and a failure of the space is one of the store
abbrev pub IsFound : Result CertAnswer ReadFailed → Result Answer Halt → Type 0
IsFound (Ok found) r = WritesText (answer_line found) (answer_status found) r
IsFound (Err stops.Fault) r = r ≡ Err halts.Store
IsFound (Err stops.NoMemory) r = r ≡ Err halts.Memory
