-- That the end of a check with a module says what stands in the dump.
use Rattle.std.proofs.Common.{◌≡◌, ℕ, List, Option, Some, None, IfSome}
use Rattle.std.specs.Bool.{OnTrue}
use Rattle.kc_outside.specs.declared.store.Slot.TheVariants.{Dump, Btf, Map, Plan, Module}
use Rattle.kc_outside.specs.Files.{Files as Told}
use Rattle.kc_cert.specs.declared.text.certificate.CertStep.{CertStep}
use Rattle.kc_command.specs.declared.ends.status.Status.{Status}
use Rattle.kc_command.specs.Ends.Ends.{IsTold, IsWritten}
use Rattle.kc_command.specs.Ends.Output.{word_files}
use Rattle.kc_command.specs.Ends.Status.{is_answer}
use Rattle.kc_app.specs.Check.{ChecksStand, RootsTold}
use Rattle.kc_app.specs.CheckModule.{audited_with}
use Rattle.kc_app.specs.ModuleHeadline.{ModuleCheckEnds, ModuleCheckPrints, ModuleChecksEnd, module_words}
use Rattle.kc_app.specs.Output.{IsToldBy, out_of, written_of}
use Rattle.kc_app.specs.Program.{program}
use Rattle.kc_app.proofs.Ends.{made_ends, on_true, prints_by, written_ends}

pub module_checks_end : ChecksStand → ModuleChecksEnd
module_checks_end stand most cert f files = made_ends stand cert (audited_with most (files Dump) (files Btf) (files Module) (files Map) (files Plan))

-- and so does what is written of it
module_written : (most : ℕ) (cert : List CertStep) (words : List (List ℕ)) (files : Told) (status : Status) (out_old out_new err_old err_new : Option (List ℕ))
    → ModuleChecksEnd → IsWritten (written_of most cert words files) status out_old out_new err_old err_new → ModuleCheckEnds most words files status
module_written most cert words files status out_old out_new err_old err_new law is f same =
    written_ends cert (audited_with most (files Dump f.files.dump) (files Btf f.files.btf) (files Module f.split) (files Map f.files.map) (files Plan f.files.plan)) (out_of most (module_words f) files) status out_old out_new err_old err_new
    (law most cert f (word_files (program most (module_words f)) files)) (rw same at is)

module_told : (most : ℕ) (cert : List CertStep) (words : List (List ℕ)) (files : Option Told) (status : Status) (out_old out_new err_old err_new : Option (List ℕ))
    → ModuleChecksEnd → IsTold (written_of most cert words) files status out_old out_new err_old err_new → IfSome files (λ f. ModuleCheckEnds most words f status)
module_told most cert words None status out_old out_new err_old err_new law is = tt
module_told most cert words (Some files) status out_old out_new err_old err_new law is = module_written most cert words files status out_old out_new err_old err_new law is

-- an answer of the program ends such a check by what its files hold
pub module_answer_ends : (most : ℕ) → ModuleChecksEnd → (words : List (List ℕ)) (files : Option Told) (status : Status) (out_old out_new err_old err_new : Option (List ℕ))
    → OnTrue (is_answer status) (IsToldBy most words files status out_old out_new err_old err_new) → OnTrue (is_answer status) (IfSome files (λ f. ModuleCheckEnds most words f status))
module_answer_ends most law words files status out_old out_new err_old err_new told =
    on_true (is_answer status) (λ is. module_told most is.0 words files status out_old out_new err_old err_new law is.2) told

-- and it prints what is shown of what they hold
module_prints : (most : ℕ) (cert : List CertStep) (words : List (List ℕ)) (files : Told) (status : Status) (out_old out_new err_old err_new : Option (List ℕ))
    → RootsTold → IsWritten (written_of most cert words files) status out_old out_new err_old err_new → ModuleCheckPrints most words files out_old out_new
module_prints most cert words files status out_old out_new err_old err_new law is f same =
    prints_by cert (audited_with most (files Dump f.files.dump) (files Btf f.files.btf) (files Module f.split) (files Map f.files.map) (files Plan f.files.plan)) status out_old out_new err_old err_new law (rw same at is)

prints_told : (most : ℕ) (cert : List CertStep) (words : List (List ℕ)) (files : Option Told) (status : Status) (out_old out_new err_old err_new : Option (List ℕ))
    → RootsTold → IsTold (written_of most cert words) files status out_old out_new err_old err_new → IfSome files (λ f. ModuleCheckPrints most words f out_old out_new)
prints_told most cert words None status out_old out_new err_old err_new law is = tt
prints_told most cert words (Some files) status out_old out_new err_old err_new law is = module_prints most cert words files status out_old out_new err_old err_new law is

pub module_answer_prints : (most : ℕ) → RootsTold → (words : List (List ℕ)) (files : Option Told) (status : Status) (out_old out_new err_old err_new : Option (List ℕ))
    → OnTrue (is_answer status) (IsToldBy most words files status out_old out_new err_old err_new) → OnTrue (is_answer status) (IfSome files (λ f. ModuleCheckPrints most words f out_old out_new))
module_answer_prints most law words files status out_old out_new err_old err_new told =
    on_true (is_answer status) (λ is. prints_told most is.0 words files status out_old out_new err_old err_new law is.2) told
