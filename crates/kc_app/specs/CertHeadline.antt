-- What the end of `certify` and of `recheck` says of the dump and of the certificate.
use Rattle.std.specs.Prelude.{◌≡◌, ℕ, ◌<◌, ◌≤◌, ◌^◌, List, [], ◌∷◌, codes, length, Option, Some, None, Ok, Err}
use Rattle.kc_outside.specs.declared.store.Slot.TheVariants.{Dump, Btf, Map, Plan, Report}
use Rattle.kc_outside.specs.Files.{Files as Told}
use Rattle.kc_outside.specs.Texts.{with_piece}
use Rattle.kc_plan.specs.Stands.{PlanStands}
use Rattle.kc_plan.specs.Verdicts.{verdict}
use Rattle.kc_cert.specs.declared.text.certificate.CertStep.{CertStep}
use Rattle.kc_cert.specs.Rechecking.Certificates.{answer}
use Rattle.kc_cert.specs.Rechecking.Laws.{AreWalks}
use Rattle.kc_cert.specs.Text.CertTexts.{IsCertificate, IsNoCertificate, cert_text}
use Rattle.kc_command.specs.declared.refusal.Refusal.TheVariants.{Certificate, TooLong}
use Rattle.kc_command.specs.Lines.{refusal_line}
use Rattle.kc_command.specs.Made.{Made}
use Rattle.kc_command.specs.declared.ends.status.Status.{Status}
use Rattle.kc_command.specs.declared.ends.status.Status.TheVariants as status
use Rattle.kc_audit.specs.Audits.{names_of}
use Rattle.kc_app.specs.Check.{Audited, Files, TellsStanding, audited, verdict_shown}
use Rattle.kc_app.specs.Recheck.{CertFiles}
use Rattle.kc_app.specs.Reply.{Proves, answer_line, answer_status}
use Rattle.kc_app.specs.Shown.{shown_text}

-- no other certificate is one of the dump
abbrev pub IsOnly : List CertStep → Audited → Type 0
IsOnly cert all = (other : List CertStep) → Proves other all.image all.audits → other ≡ cert

-- `certify` ends with 0 exactly where every root audit stands in the dump, and then prints its only certificate, whose
-- steps are the walks of the verdict in its order; and with 1 exactly where one doesn't, and then prints what is shown of the verdict
pub record TellsProof (all : Audited) (ends : Status) (old new : Option (List ℕ)) : Type 0 where
  pub stands : TellsStanding all ends
  pub proof : ends ≡ status.Done → (cert : List CertStep) × Proves cert all.image all.audits × IsOnly cert all × AreWalks all.image all.audits cert × (new ≡ with_piece old (cert_text cert))
  pub broken : ends ≡ status.Broken → new ≡ with_piece old (shown_text (verdict_shown all.image (names_of all.audits) (verdict all.image all.audits)))

-- or with 2, where a file is refused; where a file isn't there, it doesn't end so
abbrev pub CertifyBy : Made Audited → Status → Option (List ℕ) → Option (List ℕ) → Type 0
CertifyBy None ends old new = ⊥
CertifyBy (Some (Err refusal)) ends old new = ends ≡ status.Refused
CertifyBy (Some (Ok all)) ends old new = TellsProof all ends old new

abbrev pub certify_words : Files → List (List ℕ)
certify_words f = codes "certify" ∷ f.dump ∷ f.btf ∷ f.map ∷ f.plan ∷ []

-- so it is where the words are those of `certify`
abbrev pub CertifyEnds : (most : ℕ) → List (List ℕ) → Told → Status → Option (List ℕ) → Option (List ℕ) → Type 0
CertifyEnds most words files ends old new =
    (f : Files) → words ≡ certify_words f → CertifyBy (audited most (files Dump f.dump) (files Btf f.btf) (files Map f.map) (files Plan f.plan)) ends old new

-- `recheck` tells of the certificate whose text a file is whether it fits, and ends with 0 only where every structure that the plan
-- reaches stands; a file above 256 MiB and one that isn't a certificate's text are refused
pub record TellsCert (all : Audited) (bytes : List ℕ) (ends : Status) (old new err_old err_new : Option (List ℕ)) : Type 0 where
  pub told : (cert : List CertStep) → length bytes ≤ 2 ^ 28 → IsCertificate bytes cert
      → (ends ≡ answer_status (answer all.image all.audits cert)) × (new ≡ with_piece old (answer_line (answer all.image all.audits cert)))
  pub stands : ends ≡ status.Done → PlanStands all.image all.audits
  pub none : (at : ℕ) → length bytes ≤ 2 ^ 28 → IsNoCertificate bytes at → (ends ≡ status.Refused) × (err_new ≡ with_piece err_old (refusal_line (Certificate at)))
  pub long : 2 ^ 28 < length bytes → (ends ≡ status.Refused) × (err_new ≡ with_piece err_old (refusal_line (TooLong Report)))

abbrev pub RecheckBy : Made Audited → Option (List ℕ) → Status → Option (List ℕ) → Option (List ℕ) → Option (List ℕ) → Option (List ℕ) → Type 0
RecheckBy None file ends old new err_old err_new = ⊥
RecheckBy (Some (Err refusal)) file ends old new err_old err_new = ends ≡ status.Refused
RecheckBy (Some (Ok all)) None ends old new err_old err_new = ⊥
RecheckBy (Some (Ok all)) (Some bytes) ends old new err_old err_new = TellsCert all bytes ends old new err_old err_new

abbrev pub recheck_words : CertFiles → List (List ℕ)
recheck_words f = codes "recheck" ∷ f.files.dump ∷ f.files.btf ∷ f.files.map ∷ f.files.plan ∷ f.cert ∷ []

-- so it is where the words are those of `recheck`
abbrev pub RecheckEnds : (most : ℕ) → List (List ℕ) → Told → Status → Option (List ℕ) → Option (List ℕ) → Option (List ℕ) → Option (List ℕ) → Type 0
RecheckEnds most words files ends old new err_old err_new =
    (f : CertFiles) → words ≡ recheck_words f
    → RecheckBy (audited most (files Dump f.files.dump) (files Btf f.files.btf) (files Map f.files.map) (files Plan f.files.plan)) (files Report f.cert) ends old new err_old err_new
