-- What a certificate is as a reply, what where there is none, and what it comes to.
use Rattle.std.proofs.Common.{◌≡◌, ℕ, ◌≤◌, List, [], ◌∷◌, Option, Some, None, IfSome, Result, Ok, Err, IfOk, refl, sym, arith}
use Rattle.kc_outside.specs.declared.store.Slot.{Slot}
use Rattle.kc_outside.specs.declared.store.Slot.TheVariants as slot
use Rattle.kc_outside.specs.Counts.{Rose}
use Rattle.kc_outside.specs.Files.{Files as Told}
use Rattle.kc_found.specs.declared.verdict.Verdict.TheVariants as verdicts
use Rattle.kc_plan.specs.Verdicts.{verdict_places}
use Rattle.kc_cert.specs.declared.rechecking.against.CertAnswer.{CertAnswer}
use Rattle.kc_cert.specs.declared.text.certificate.CertStep.{CertStep}
use Rattle.kc_cert.specs.declared.certifying.issue.CertStop.{CertStop}
use Rattle.kc_cert.specs.declared.certifying.issue.CertStop.TheVariants.{Broken, Fault, NoMemory}
use Rattle.kc_found.specs.declared.failed.ReadFailed.{ReadFailed}
use Rattle.kc_found.specs.declared.failed.ReadFailed.TheVariants as stops
use Rattle.kc_cert.specs.Rechecking.Certificates.{answer}
use Rattle.kc_cert.specs.Certifying.Certified.{Certifies, CertifiesAs, CountsCertifyFaults}
use Rattle.kc_command.specs.declared.halt.Halt.{Halt}
use Rattle.kc_command.specs.declared.halt.Halt.TheVariants.{Refused, Store, Memory}
use Rattle.kc_command.specs.Halts.{OnStore, UnlessStore}
use Rattle.kc_command.specs.Made.{◌>>=◌, IsOf, Made, gives}
use Rattle.kc_command.specs.Slots.{RefusesIn, refused_slot}
use Rattle.kc_command.specs.declared.ends.answer.Answer.{Answer}
use Rattle.kc_command.specs.declared.ends.status.Status.{Status}
use Rattle.kc_command.specs.Ends.Answers.{StayBehind}
use Rattle.kc_command.specs.Ends.Asked.{AllStay, behind}
use Rattle.kc_app.specs.declared.held.HeldFiles.{HeldFiles}
use Rattle.kc_app.specs.Answer.{WritesText}
use Rattle.kc_app.specs.Certified.{IsFound, IsMade, IsSpelled, IsUnclean}
use Rattle.kc_app.specs.Certify.{certified}
use Rattle.kc_audit.specs.Audits.{names_of}
use Rattle.kc_app.specs.Check.{Audited, Files, check_asked, verdict_said, verdict_shown}
use Rattle.kc_app.specs.Fitted.{Replies, RepliesOf, RepliesOfBytes}
use Rattle.kc_app.specs.Held.{Holds, audited_of}
use Rattle.kc_app.specs.Recheck.{CertFiles, cert_file, recheck_asked}
use Rattle.kc_app.specs.Reply.{CertificateOf, Rechecks, Shows, answer_line, answer_status}
use Rattle.kc_app.specs.Shown.{said_status, seen_text}
use Rattle.kc_found.specs.Failures.{CountsFailures}

-- of a certificate
spelled_one : (all : Audited) (cert : List CertStep) (r : Result Answer Halt) → Certifies all.image all.audits cert → IsSpelled cert r → Replies (gives (certified all)) r
spelled_one all cert (Ok answer) found text =
    record {
      cert = cert;
      reply = CertificateOf all.image all.audits;
      is = rw found.2 refl;
      fits = record { spells = text.0; counts = found.0; fits = found.1 };
      prints = sym text.1;
    }
spelled_one all cert (Err (Refused refusal)) found text = absurd text
spelled_one all cert (Err Store) found text = absurd text
spelled_one all cert (Err Memory) found text = tt

-- and of a violation
unclean_one : (all : Audited) (names : List (List ℕ)) (stop : CertStop) (r : Result Answer Halt) → names ≡ names_of all.audits
    → CertifiesAs (Some all.image) all.audits (Err stop) → IsUnclean names stop r → Replies (gives (certified all)) r
unclean_one all names (Broken v) (Ok answer) named found text =
    record {
      cert = [];
      reply = Shows (verdict_shown all.image (names_of all.audits) (verdicts.Broken v));
      is = rw found refl;
      fits = tt;
      prints = sym (rw named at text);
    }
unclean_one all names (Broken v) (Err (Refused refusal)) named found text = absurd text
unclean_one all names (Broken v) (Err Store) named found text = absurd text
unclean_one all names (Broken v) (Err Memory) named found text = tt
unclean_one all names Fault r named found text = rw text tt
unclean_one all names NoMemory r named found text = rw text tt

made_one : (all : Audited) (names : List (List ℕ)) (made : Result (List CertStep) CertStop) (r : Result Answer Halt) → names ≡ names_of all.audits
    → CertifiesAs (Some all.image) all.audits made → IsMade names made r → Replies (gives (certified all)) r
made_one all names (Ok cert) r named found text = spelled_one all cert r found text
made_one all names (Err stop) r named found text = unclean_one all names stop r named found text

pub made_replies : (content : Option (List ℕ)) (all : List ℕ → Audited) (names : List (List ℕ)) (made : Result (List CertStep) CertStop) (r : Result Answer Halt)
    → ((bytes : List ℕ) → names ≡ names_of (all bytes).audits) → IfSome content (λ bytes. CertifiesAs (Some (all bytes).image) (all bytes).audits made) → IsMade names made r
    → RepliesOfBytes (λ bytes. certified (all bytes)) content r
made_replies None all names made r named found text = tt
made_replies (Some bytes) all names made r named found text = made_one (all bytes) names made r (named bytes) found text

-- of what a certificate comes to
told_one : (found : CertAnswer) (r : Result Answer Halt) → WritesText (answer_line found) (answer_status found) r → Replies (gives (Rechecks found)) r
told_one found (Ok answer) text = record { cert = []; reply = Rechecks found; is = refl; fits = tt; prints = sym text }
told_one found (Err (Refused refusal)) text = absurd text
told_one found (Err Store) text = absurd text
told_one found (Err Memory) text = tt

found_one : (comes : CertAnswer) (found : Result CertAnswer ReadFailed) (r : Result Answer Halt) → IfOk found (λ a. comes ≡ a) → IsFound found r → Replies (gives (Rechecks comes)) r
found_one comes (Ok found) r is text = rw is (told_one found r text)
found_one comes (Err stops.Fault) r is text = rw text tt
found_one comes (Err stops.NoMemory) r is text = rw text tt

pub found_replies : (content : Option (List ℕ)) (comes : List ℕ → CertAnswer) (found : Result CertAnswer ReadFailed) (r : Result Answer Halt)
    → IfSome content (λ bytes. IfOk found (λ a. comes bytes ≡ a)) → IsFound found r → RepliesOfBytes (λ bytes. Rechecks (comes bytes)) content r
found_replies None comes found r is text = tt
found_replies (Some bytes) comes found r is text = found_one (comes bytes) found r is text

-- where the store failed: exactly where the space did
unless_store : {P : Type 0} (r : Result Answer Halt) → P → UnlessStore r P
unless_store (Ok answer) p = p
unless_store (Err (Refused refusal)) p = p
unless_store (Err Store) p = tt
unless_store (Err Memory) p = p

written_sure : (text : List ℕ) (ends : Status) (r : Result Answer Halt) (before after : ℕ) → WritesText text ends r → OnStore r (Rose before after)
written_sure text ends (Ok answer) before after writes = tt
written_sure text ends (Err (Refused refusal)) before after writes = tt
written_sure text ends (Err Store) before after writes = absurd writes
written_sure text ends (Err Memory) before after writes = tt

spelled_sure : (cert : List CertStep) (r : Result Answer Halt) (before after : ℕ) → IsSpelled cert r → OnStore r (Rose before after)
spelled_sure cert (Ok answer) before after text = tt
spelled_sure cert (Err (Refused refusal)) before after text = tt
spelled_sure cert (Err Store) before after text = absurd text
spelled_sure cert (Err Memory) before after text = tt

-- what is said of the counts of failures
pub record CountsAs (r : Result Answer Halt) (before after : ℕ) : Type 0 where
  pub later : before ≤ after
  pub quiet : UnlessStore r (after ≡ before)
  pub cause : OnStore r (Rose before after)

quiet_counts : (r : Result Answer Halt) (before after : ℕ) → after ≡ before → OnStore r (Rose before after) → CountsAs r before after
quiet_counts r before after same sure = record { later = omega (arith, same); quiet = unless_store r same; cause = sure }

pub made_counts : (names : List (List ℕ)) (made : Result (List CertStep) CertStop) (r : Result Answer Halt) (before after : ℕ)
    → IsMade names made r → CountsCertifyFaults made before after → CountsAs r before after
made_counts names (Ok cert) r before after text counts = quiet_counts r before after counts (spelled_sure cert r before after text)
made_counts names (Err (Broken v)) r before after text counts =
    quiet_counts r before after counts
    (written_sure (seen_text (verdict_said names (verdicts.Broken v)) (verdict_places (verdicts.Broken v))) (said_status (verdict_said names (verdicts.Broken v))) r before after text)
made_counts names (Err Fault) r before after text counts = record { later = counts.0; quiet = rw text tt; cause = rw text counts.1 }
made_counts names (Err NoMemory) r before after text counts = quiet_counts r before after counts (rw text tt)

pub found_counts : (found : Result CertAnswer ReadFailed) (r : Result Answer Halt) (before after : ℕ) → IsFound found r → CountsFailures found before after → CountsAs r before after
found_counts (Ok found) r before after text counts = quiet_counts r before after counts (written_sure (answer_line found) (answer_status found) r before after text)
found_counts (Err stops.Fault) r before after text counts = record { later = counts.0; quiet = rw text tt; cause = rw text counts.1 }
found_counts (Err stops.NoMemory) r before after text counts = quiet_counts r before after counts (rw text tt)

-- and where the files are told
pub cert_replies : (made : Told → Made Audited) (file : Told → Option (List ℕ)) (files : Option Told) (content : Option (List ℕ)) (held : HeldFiles) (cert : List CertStep) (r : Result Answer Halt)
    → Holds made files content (Ok held) → IsOf {X = List CertStep} (λ x. x) (λ files. cert_file (file files)) files (Ok cert)
    → RepliesOfBytes (λ bytes. Rechecks (answer (audited_of held bytes).image (audited_of held bytes).audits cert)) content r
    → RepliesOf (λ files. made files >>= (λ all. cert_file (file files) >>= (λ steps. gives (Rechecks (answer all.image all.audits steps))))) files r
cert_replies made file None content held cert r is told replies = tt
cert_replies made file (Some files) content held cert r is told replies = rw (is.2, told) (rw is.1 at replies)

-- a refusal of one of the four files leaves that of the certificate unopened too
stays_more : (most : ℕ) (f : CertFiles) (one : Option Slot) (old new : Slot → Option (List ℕ)) → new slot.Report ≡ old slot.Report
    → AllStay (behind one (check_asked most f.files).named) old new → AllStay (behind one (recheck_asked most f).named) old new
stays_more most f None old new kept stay = tt
stays_more most f (Some slot.Dump) old new kept stay = (stay.0, (stay.1.0, (stay.1.1.0, (kept, tt))))
stays_more most f (Some slot.Btf) old new kept stay = (stay.0, (stay.1.0, (kept, tt)))
stays_more most f (Some slot.Map) old new kept stay = (stay.0, (kept, tt))
stays_more most f (Some slot.Plan) old new kept stay = (kept, tt)
stays_more most f (Some slot.Report) old new kept stay = tt
stays_more most f (Some slot.Module) old new kept stay = tt

pub four_stay : (most : ℕ) (A B : Type 0) (f : CertFiles) (halt : Halt) (r : Result B Halt) (old new : Slot → Option (List ℕ)) → r ≡ Err halt → new slot.Report ≡ old slot.Report
    → StayBehind {A = A} (check_asked most f.files).named (Err halt) old new → StayBehind (recheck_asked most f).named r old new
four_stay most A B f (Refused refusal) r old new is kept stay = rw is (stays_more most f (refused_slot refusal) old new kept stay)
four_stay most A B f Store r old new is kept stay = rw is tt
four_stay most A B f Memory r old new is kept stay = rw is tt

-- and that of the certificate leaves none
pub last_stays : (most : ℕ) (A B : Type 0) (f : CertFiles) (halt : Halt) (r : Result B Halt) (old new : Slot → Option (List ℕ)) → r ≡ Err halt → RefusesIn {A = A} slot.Report (Err halt)
    → StayBehind (recheck_asked most f).named r old new
last_stays most A B f (Refused refusal) r old new is late = rw (is, late) tt
last_stays most A B f Store r old new is late = rw is tt
last_stays most A B f Memory r old new is late = rw is tt
