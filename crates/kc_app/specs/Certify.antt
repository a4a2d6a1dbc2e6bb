-- `certify`: a certificate of the structures of a kernel, by a plan.
use Rattle.std.specs.Prelude.{ℕ, List, [], ◌∷◌, codes, Option, Some, None}
use Rattle.kc_outside.specs.declared.store.Slot.TheVariants as slot
use Rattle.kc_found.specs.declared.verdict.Verdict.{Verdict}
use Rattle.kc_found.specs.declared.verdict.Verdict.TheVariants.{Clean, Broken}
use Rattle.kc_plan.specs.Verdicts.{verdict}
use Rattle.kc_command.specs.Made.{◌>>=◌, Made, gives}
use Rattle.kc_command.specs.Ends.Asked.{Asked}
use Rattle.kc_audit.specs.Audits.{names_of}
use Rattle.kc_app.specs.Check.{Audited, Files, audited, check_asked, verdict_shown}
use Rattle.kc_app.specs.Form.{Form}
use Rattle.kc_app.specs.Reply.{Reply, CertificateOf, Shows}

-- a certificate where the verdict is clean, and else what `check` shows of the verdict
abbrev pub certified_by : Audited → Verdict → Reply
certified_by all (Clean counts) = CertificateOf all.image all.audits
certified_by all (Broken v) = Shows (verdict_shown all.image (names_of all.audits) (Broken v))

-- the verdict is that on all audits, of each version of the plan
abbrev pub certified : Audited → Reply
certified all = certified_by all (verdict all.image all.audits)

-- what `certify` makes of its files
abbrev pub certify_made : (most : ℕ) → Option (List ℕ) → Option (List ℕ) → Option (List ℕ) → Option (List ℕ) → Made Reply
certify_made most dump btf map plan = do
  all ← audited most dump btf map plan
  gives (certified all)

abbrev pub certify_asked : (most : ℕ) → Files → Asked Reply
certify_asked most f = record {
  named = (check_asked most f).named;
  made = λ files. certify_made most (files slot.Dump) (files slot.Btf) (files slot.Map) (files slot.Plan);
}

abbrev pub certify_asks : (most : ℕ) → List (List ℕ) → Option (Asked Reply)
certify_asks most (dump ∷ btf ∷ map ∷ plan ∷ []) = Some (certify_asked most (record { dump = dump; btf = btf; map = map; plan = plan }))
certify_asks most _ = None

abbrev pub certify_form : (most : ℕ) → Form Reply
certify_form most = record { name = codes "certify"; words = codes "DUMP BTF MAP PLAN" ∷ []; asks = certify_asks most }
