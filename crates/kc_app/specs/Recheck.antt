-- `recheck`: whether a certificate fits the structures of a kernel, by a plan.
use Rattle.std.specs.Prelude.{ℕ, List, [], ◌∷◌, ◌++◌, codes, Option, Some, None}
use Rattle.kc_outside.specs.declared.store.Slot.TheVariants as slot
use Rattle.kc_cert.specs.declared.text.certificate.CertStep.{CertStep}
use Rattle.kc_cert.specs.Rechecking.Certificates.{answer}
use Rattle.kc_cert.specs.Text.CertTexts.{cert_in}
use Rattle.kc_command.specs.declared.refusal.Refusal.TheVariants.{Certificate}
use Rattle.kc_command.specs.Inputs.{cert_bytes_in}
use Rattle.kc_command.specs.Made.{◌>>=◌, Made, checked, gives}
use Rattle.kc_command.specs.Ends.Asked.{Asked}
use Rattle.kc_app.specs.declared.recheck.Asks.{Asks}
use Rattle.kc_app.specs.Check.{Files, audited, check_asked, files_view}
use Rattle.kc_app.specs.Form.{Form}
use Rattle.kc_app.specs.Reply.{Reply, Rechecks}

-- what it asks: four files and the certificate's by their names
pub record CertFiles : Type 0 where
  pub files : Files
  pub cert : List ℕ

-- the certificate whose text a file is, or the file's first fault: the limit comes first
abbrev pub cert_file : Option (List ℕ) → Made (List CertStep)
cert_file file = do
  bytes ← cert_bytes_in file
  checked Certificate (cert_in bytes)

-- what `recheck` makes of its files: the faults come in the order dump, types, map, plan and certificate
abbrev pub recheck_made : (most : ℕ) → Option (List ℕ) → Option (List ℕ) → Option (List ℕ) → Option (List ℕ) → Option (List ℕ) → Made Reply
recheck_made most dump btf map plan file = do
  all ← audited most dump btf map plan
  cert ← cert_file file
  gives (Rechecks (answer all.image all.audits cert))

abbrev pub recheck_asked : (most : ℕ) → CertFiles → Asked Reply
recheck_asked most f = record {
  named = (check_asked most f.files).named ++ record { slot = slot.Report; name = f.cert } ∷ [];
  made = λ files. recheck_made most (files slot.Dump) (files slot.Btf) (files slot.Map) (files slot.Plan) (files slot.Report);
}

abbrev pub recheck_asks : (most : ℕ) → List (List ℕ) → Option (Asked Reply)
recheck_asks most (dump ∷ btf ∷ map ∷ plan ∷ cert ∷ []) =
    Some (recheck_asked most (record { files = record { dump = dump; btf = btf; map = map; plan = plan }; cert = cert }))
recheck_asks most _ = None

abbrev pub recheck_form : (most : ℕ) → Form Reply
recheck_form most = record { name = codes "recheck"; words = codes "DUMP BTF MAP PLAN CERT" ∷ []; asks = recheck_asks most }

-- as the code keeps them
abbrev pub cert_files : Asks → CertFiles
cert_files a = record { files = files_view a.files; cert = a.cert.now }
