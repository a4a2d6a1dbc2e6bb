-- That the end of `certify` and of `recheck` says what stands in the dump, and what the certificate is.
use Rattle.std.proofs.Common.{◌≡◌, ℕ, ◌<◌, ◌≤◌, ◌^◌, Bool, true, false, nat_le, if◌then◌else◌, List, length, Option, Some, None, option_map, IfSome, Result, Ok, Err, refl, sym, ap, ◌∙◌, subst, arith}
use Rattle.std.specs.Bool.{OnTrue}
use Rattle.std.proofs.lemmas.Bool.{le-leb}
use Rattle.std.proofs.lemmas.Bool.Decides.{leb_tells, nat_tests}
use Rattle.kc_outside.specs.declared.store.Slot.TheVariants.{Dump, Btf, Map, Plan, Report}
use Rattle.kc_outside.specs.Files.{Files as Told}
use Rattle.kc_outside.specs.Texts.{with_piece}
use Rattle.kc_found.specs.declared.verdict.Verdict.{Verdict}
use Rattle.kc_found.specs.declared.verdict.Verdict.TheVariants.{Clean, Broken}
use Rattle.kc_plan.specs.Planned.{AuditAt}
use Rattle.kc_plan.specs.Stands.{PlanStands}
use Rattle.kc_plan.specs.Verdicts.{verdict}
use Rattle.kc_cert.specs.declared.text.certificate.CertStep.{CertStep}
use Rattle.kc_memory.specs.Image.{Image}
use Rattle.kc_cert.specs.declared.rechecking.against.CertAnswer.{CertAnswer}
use Rattle.kc_cert.specs.declared.rechecking.against.CertAnswer.TheVariants.{Yes, No}
use Rattle.kc_cert.specs.Rechecking.Answers.{IsRight}
use Rattle.kc_cert.specs.Rechecking.Certificates.{answer}
use Rattle.kc_cert.specs.Rechecking.Laws.{AnswersAreRight, StepsAreWalks}
use Rattle.kc_cert.specs.Single.{CertificatesAreOne}
use Rattle.kc_cert.specs.Text.CertTexts.{IsCertificate, IsNoCertificate, TextsTold, cert_in}
use Rattle.kc_command.specs.declared.refusal.Refusal.{Refusal}
use Rattle.kc_command.specs.declared.refusal.Refusal.TheVariants.{Certificate, TooLong}
use Rattle.kc_command.specs.Lines.{refusal_line}
use Rattle.kc_command.specs.Made.{◌>>=◌, Made, checked, gives, refuses}
use Rattle.kc_command.specs.declared.ends.status.Status.{Status}
use Rattle.kc_command.specs.declared.ends.status.Status.TheVariants as status
use Rattle.kc_command.specs.Ends.Ends.{IsTold, IsWritten}
use Rattle.kc_command.specs.Ends.Output.{Output, Ends}
use Rattle.kc_command.specs.Ends.Status.{is_answer}
use Rattle.kc_app.specs.CertHeadline.{CertifyBy, CertifyEnds, RecheckBy, RecheckEnds, TellsCert, TellsProof}
use Rattle.kc_app.specs.Certify.{certified, certified_by}
use Rattle.kc_audit.specs.Audits.{names_of}
use Rattle.kc_app.specs.Check.{Audited, ChecksStand, Files, TellsStanding, audited, verdict_said, verdict_shown}
use Rattle.kc_app.specs.Output.{FitsFiles, FitsOutput, IsToldBy, output_written, written_of}
use Rattle.kc_app.specs.Recheck.{CertFiles, cert_file}
use Rattle.kc_app.specs.Reply.{Fits, Reply, Rechecks, answer_line, answer_status, reply_status, reply_text}
use Rattle.kc_app.specs.Shown.{said_status, shown_text}
use Rattle.kc_app.proofs.Ends.{on_true}

-- what was written of what is made
abbrev Wrote : List CertStep → Made Reply → Status → Option (List ℕ) → Option (List ℕ) → Option (List ℕ) → Option (List ℕ) → Type 0
Wrote cert made ends old new err_old err_new = IsWritten (option_map (output_written cert) (option_map Ends made)) ends old new err_old err_new

standing : ChecksStand → (all : Audited) → TellsStanding all (said_status (verdict_said (names_of all.audits) (verdict all.image all.audits)))
standing law all = law (record { image = all.image; version = 1; audits = all.audits })

-- what is known of certificates
pub record CertLaws : Type 0 where
  pub only : CertificatesAreOne
  pub order : StepsAreWalks

-- by the verdict
by_verdict : CertLaws → (cert : List CertStep) (all : Audited) (found : Verdict) (ends : Status) (old new : Option (List ℕ)) → verdict all.image all.audits ≡ found
    → TellsStanding all (said_status (verdict_said (names_of all.audits) found)) → Fits cert (certified_by all found)
    → ends ≡ reply_status (certified_by all found) → new ≡ with_piece old (reply_text cert (certified_by all found)) → TellsProof all ends old new
by_verdict certs cert all (Clean counts) ends old new is stands fits end took =
    record {
      stands = subst (λ (s : Status). TellsStanding all s) (sym end) stands;
      proof = λ done. (cert, fits, (λ other is. certs.only all.image all.audits other cert is.counts fits.counts is.fits fits.fits), certs.order all.image all.audits cert fits.counts fits.fits, took);
      broken = λ broken. absurd (let no : status.Broken ≡ status.Done = sym broken ∙ end in let none : ⊥ = cc in none);
    }
by_verdict certs cert all (Broken v) ends old new is stands fits end took =
    record {
      stands = subst (λ (s : Status). TellsStanding all s) (sym end) stands;
      proof = λ done. absurd (let no : status.Done ≡ status.Broken = sym done ∙ end in let none : ⊥ = cc in none);
      broken = λ broken. took ∙ ap (λ (f : Verdict). with_piece old (shown_text (verdict_shown all.image (names_of all.audits) f))) (sym is);
    }

certify_by : ChecksStand → CertLaws → (cert : List CertStep) (made : Made Audited) (ends : Status) (old new err_old err_new : Option (List ℕ))
    → FitsOutput cert (option_map Ends (made >>= (λ all. gives (certified all)))) → Wrote cert (made >>= (λ all. gives (certified all))) ends old new err_old err_new → CertifyBy made ends old new
certify_by law certs cert None ends old new err_old err_new fits is = absurd is
certify_by law certs cert (Some (Err refusal)) ends old new err_old err_new fits is = is.ends
certify_by law certs cert (Some (Ok all)) ends old new err_old err_new fits is = by_verdict certs cert all (verdict all.image all.audits) ends old new refl (standing law all) fits is.ends is.out_took

certify_written : (most : ℕ) → ChecksStand → CertLaws → (cert : List CertStep) (words : List (List ℕ)) (files : Told) (ends : Status) (old new err_old err_new : Option (List ℕ))
    → FitsFiles most cert words (Some files) → IsWritten (written_of most cert words files) ends old new err_old err_new → CertifyEnds most words files ends old new
certify_written most law certs cert words files ends old new err_old err_new fits is f same =
    certify_by law certs cert (audited most (files Dump f.dump) (files Btf f.btf) (files Map f.map) (files Plan f.plan)) ends old new err_old err_new (rw same at fits) (rw same at is)

certify_told : (most : ℕ) → ChecksStand → CertLaws → (cert : List CertStep) (words : List (List ℕ)) (files : Option Told) (ends : Status) (old new err_old err_new : Option (List ℕ))
    → FitsFiles most cert words files → IsTold (written_of most cert words) files ends old new err_old err_new → IfSome files (λ f. CertifyEnds most words f ends old new)
certify_told most law certs cert words None ends old new err_old err_new fits is = tt
certify_told most law certs cert words (Some files) ends old new err_old err_new fits is = certify_written most law certs cert words files ends old new err_old err_new fits is

-- an answer of the program ends `certify` by what its files hold
pub answer_certifies : (most : ℕ) → ChecksStand → CertLaws → (words : List (List ℕ)) (files : Option Told) (ends : Status) (old new err_old err_new : Option (List ℕ))
    → OnTrue (is_answer ends) (IsToldBy most words files ends old new err_old err_new) → OnTrue (is_answer ends) (IfSome files (λ f. CertifyEnds most words f ends old new))
answer_certifies most law certs words files ends old new err_old err_new told =
    on_true (is_answer ends) (λ is. certify_told most law certs is.0 words files ends old new err_old err_new is.1 is.2) told

-- what is made of a certificate's file, by whether it is short
abbrev short_made : Bool → List ℕ → Made (List CertStep)
short_made short bytes = (if short then gives bytes else refuses (TooLong Report)) >>= (λ bs. checked Certificate (cert_in bs))

abbrev rest : Audited → Made (List CertStep) → Made Reply
rest all made = made >>= (λ steps. gives (Rechecks (answer all.image all.audits steps)))

refused : (cert : List CertStep) (all : Audited) (made : Made (List CertStep)) (refusal : Refusal) (ends : Status) (old new err_old err_new : Option (List ℕ))
    → made ≡ Some (Err refusal) → Wrote cert (rest all made) ends old new err_old err_new → (ends ≡ status.Refused) × (err_new ≡ with_piece err_old (refusal_line refusal))
refused cert all made refusal ends old new err_old err_new is wrote =
    let w = subst (λ (m : Made (List CertStep)). Wrote cert (rest all m) ends old new err_old err_new) is wrote in
    (w.ends, w.err_took)

gave : (cert : List CertStep) (all : Audited) (made : Made (List CertStep)) (steps : List CertStep) (ends : Status) (old new err_old err_new : Option (List ℕ))
    → made ≡ gives steps → Wrote cert (rest all made) ends old new err_old err_new
    → (ends ≡ answer_status (answer all.image all.audits steps)) × (new ≡ with_piece old (answer_line (answer all.image all.audits steps)))
gave cert all made steps ends old new err_old err_new is wrote =
    let w = subst (λ (m : Made (List CertStep)). Wrote cert (rest all m) ends old new err_old err_new) is wrote in
    (w.ends, w.out_took)

too_long : (bytes : List ℕ) → 2 ^ 28 < length bytes → nat_le (length bytes) (2 ^ 28) ≡ false
too_long bytes more = grind (arith, nat_tests)

yes_stands : (i : Image) (audits : List AuditAt) (a : CertAnswer) → IsRight i audits a → answer_status a ≡ status.Done → PlanStands i audits
yes_stands i audits (Yes counts) right done = right.0
yes_stands i audits (No k) right done = absurd (let none : ⊥ = cc in none)

-- an end with 0 is that of a certificate that fits
done_stands : AnswersAreRight → (cert : List CertStep) (all : Audited) (made : Made (List CertStep)) (ends : Status) (old new err_old err_new : Option (List ℕ))
    → Wrote cert (rest all made) ends old new err_old err_new → ends ≡ status.Done → PlanStands all.image all.audits
done_stands law cert all None ends old new err_old err_new wrote done = absurd wrote
done_stands law cert all (Some (Err refusal)) ends old new err_old err_new wrote done =
    let refused : ends ≡ status.Refused = wrote.ends in
    absurd (let no : status.Refused ≡ status.Done = sym refused ∙ done in let none : ⊥ = cc in none)
done_stands law cert all (Some (Ok steps)) ends old new err_old err_new wrote done =
    yes_stands all.image all.audits (answer all.image all.audits steps) (law all.image all.audits steps) (sym wrote.ends ∙ done)

cert_by : AnswersAreRight → TextsTold → (cert : List CertStep) (all : Audited) (bytes : List ℕ) (ends : Status) (old new err_old err_new : Option (List ℕ))
    → Wrote cert (rest all (short_made (nat_le (length bytes) (2 ^ 28)) bytes)) ends old new err_old err_new → TellsCert all bytes ends old new err_old err_new
cert_by law texts cert all bytes ends old new err_old err_new wrote =
    let made : Made (List CertStep) = short_made (nat_le (length bytes) (2 ^ 28)) bytes in
    record {
      told = λ steps few is. gave cert all made steps ends old new err_old err_new
          (ap (λ (b : Bool). short_made b bytes) (le-leb (length bytes) (2 ^ 28) few) ∙ ap (checked Certificate) (((texts bytes).cert steps).1 is)) wrote;
      stands = done_stands law cert all made ends old new err_old err_new wrote;
      none = λ at few is. refused cert all made (Certificate at) ends old new err_old err_new
          (ap (λ (b : Bool). short_made b bytes) (le-leb (length bytes) (2 ^ 28) few) ∙ ap (checked Certificate) (((texts bytes).refused at).1 is)) wrote;
      long = λ more. refused cert all made (TooLong Report) ends old new err_old err_new (ap (λ (b : Bool). short_made b bytes) (too_long bytes more)) wrote;
    }

recheck_by : AnswersAreRight → TextsTold → (cert : List CertStep) (made : Made Audited) (file : Option (List ℕ)) (ends : Status) (old new err_old err_new : Option (List ℕ))
    → Wrote cert (made >>= (λ all. rest all (cert_file file))) ends old new err_old err_new → RecheckBy made file ends old new err_old err_new
recheck_by law texts cert None file ends old new err_old err_new is = absurd is
recheck_by law texts cert (Some (Err refusal)) file ends old new err_old err_new is = is.ends
recheck_by law texts cert (Some (Ok all)) None ends old new err_old err_new is = absurd is
recheck_by law texts cert (Some (Ok all)) (Some bytes) ends old new err_old err_new is = cert_by law texts cert all bytes ends old new err_old err_new is

recheck_written : (most : ℕ) → AnswersAreRight → TextsTold → (cert : List CertStep) (words : List (List ℕ)) (files : Told) (ends : Status) (old new err_old err_new : Option (List ℕ))
    → IsWritten (written_of most cert words files) ends old new err_old err_new → RecheckEnds most words files ends old new err_old err_new
recheck_written most law texts cert words files ends old new err_old err_new is f same =
    recheck_by law texts cert (audited most (files Dump f.files.dump) (files Btf f.files.btf) (files Map f.files.map) (files Plan f.files.plan)) (files Report f.cert) ends old new err_old err_new (rw same at is)

recheck_told : (most : ℕ) → AnswersAreRight → TextsTold → (cert : List CertStep) (words : List (List ℕ)) (files : Option Told) (ends : Status) (old new err_old err_new : Option (List ℕ))
    → IsTold (written_of most cert words) files ends old new err_old err_new → IfSome files (λ f. RecheckEnds most words f ends old new err_old err_new)
recheck_told most law texts cert words None ends old new err_old err_new is = tt
recheck_told most law texts cert words (Some files) ends old new err_old err_new is = recheck_written most law texts cert words files ends old new err_old err_new is

-- and `recheck` by the certificate's file too
pub answer_rechecks : (most : ℕ) → AnswersAreRight → TextsTold → (words : List (List ℕ)) (files : Option Told) (ends : Status) (old new err_old err_new : Option (List ℕ))
    → OnTrue (is_answer ends) (IsToldBy most words files ends old new err_old err_new) → OnTrue (is_answer ends) (IfSome files (λ f. RecheckEnds most words f ends old new err_old err_new))
answer_rechecks most law texts words files ends old new err_old err_new told =
    on_true (is_answer ends) (λ is. recheck_told most law texts is.0 words files ends old new err_old err_new is.2) told
