-- What the end of `check` with a module says of the dump.
use Rattle.std.specs.Prelude.{◌≡◌, ℕ, List, [], ◌∷◌, codes, Option, IfSome}
use Rattle.kc_outside.specs.declared.store.Slot.{Slot}
use Rattle.kc_outside.specs.declared.store.Slot.TheVariants.{Dump, Btf, Map, Plan, Module}
use Rattle.kc_outside.specs.Files.{Files as Told}
use Rattle.kc_cert.specs.declared.text.certificate.CertStep.{CertStep}
use Rattle.kc_command.specs.declared.ends.status.Status.{Status}
use Rattle.kc_app.specs.CheckModule.{FiveFiles, audited_with}
use Rattle.kc_app.specs.Headline.{EndsBy, PrintsBy}
use Rattle.kc_app.specs.Output.{out, output_written}

-- the words of a check of five files
abbrev pub module_words : FiveFiles → List (List ℕ)
module_words f = codes "check" ∷ f.files.dump ∷ f.files.btf ∷ f.files.map ∷ f.files.plan ∷ f.split ∷ []

-- where the words are those of a check of five files, a status is its end
abbrev pub ModuleCheckEnds : (most : ℕ) → List (List ℕ) → Told → Status → Type 0
ModuleCheckEnds most words files ends =
    (f : FiveFiles) → words ≡ module_words f
    → EndsBy (audited_with most (files Dump f.files.dump) (files Btf f.files.btf) (files Module f.split) (files Map f.files.map) (files Plan f.files.plan)) ends

-- and standard output took what is shown of what they hold
abbrev pub ModuleCheckPrints : (most : ℕ) → List (List ℕ) → Told → Option (List ℕ) → Option (List ℕ) → Type 0
ModuleCheckPrints most words files old new =
    (f : FiveFiles) → words ≡ module_words f
    → PrintsBy (audited_with most (files Dump f.files.dump) (files Btf f.files.btf) (files Module f.split) (files Map f.files.map) (files Plan f.files.plan)) old new

-- each output of such a check has such a status
abbrev pub ModuleChecksEnd : Type 0
ModuleChecksEnd =
    (most : ℕ) (cert : List CertStep) (f : FiveFiles) (files : Slot → Option (List ℕ)) → IfSome (out most (module_words f) files)
    (λ output. EndsBy (audited_with most (files Dump) (files Btf) (files Module) (files Map) (files Plan)) (output_written cert output).status)
