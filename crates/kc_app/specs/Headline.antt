-- What the end of `check` says of the dump.
use Rattle.std.specs.Prelude.{◌≡◌, ℕ, List, [], ◌∷◌, codes, Option, Some, None, IfSome, Ok, Err}
use Rattle.kc_outside.specs.declared.store.Slot.{Slot}
use Rattle.kc_outside.specs.declared.store.Slot.TheVariants.{Dump, Btf, Map, Plan}
use Rattle.kc_outside.specs.Files.{Files as Told}
use Rattle.kc_outside.specs.Texts.{with_piece}
use Rattle.kc_command.specs.Made.{Made, gives}
use Rattle.kc_cert.specs.declared.text.certificate.CertStep.{CertStep}
use Rattle.kc_command.specs.declared.ends.status.Status.{Status}
use Rattle.kc_command.specs.declared.ends.status.Status.TheVariants as status
use Rattle.kc_app.specs.Check.{Audited, Files, TellsRoots, TellsStanding, audited, audited_shown}
use Rattle.kc_app.specs.Output.{out, output_written}
use Rattle.kc_app.specs.Shown.{shown_text}

-- A check ends with 0 exactly where every root audit of what its files hold stands in the dump, and with 1 exactly where one
-- doesn't; or with 2, where a file is refused. Where a file isn't there, it doesn't end so.
abbrev pub EndsBy : Made Audited → Status → Type 0
EndsBy None ends = ⊥
EndsBy (Some (Err refusal)) ends = ends ≡ status.Refused
EndsBy (Some (Ok all)) ends = TellsStanding all ends

-- the words of a check of four files
abbrev pub check_words : Files → List (List ℕ)
check_words f = codes "check" ∷ f.dump ∷ f.btf ∷ f.map ∷ f.plan ∷ []

-- where the words are those of a check of four files, a status is its end
abbrev pub CheckEnds : (most : ℕ) → List (List ℕ) → Told → Status → Type 0
CheckEnds most words files ends =
    (f : Files) → words ≡ check_words f → EndsBy (audited most (files Dump f.dump) (files Btf f.btf) (files Map f.map) (files Plan f.plan)) ends

-- Where no file is refused, standard output took what is shown. Of a plan of version 2 this says of each root audit that it is
-- clean exactly where its structures stand in the dump.
abbrev pub PrintsBy : Made Audited → Option (List ℕ) → Option (List ℕ) → Type 0
PrintsBy made old new = (all : Audited) → made ≡ gives all → (new ≡ with_piece old (shown_text (audited_shown all))) × TellsRoots all (audited_shown all)

-- it did so where the words are those of a check of four files
abbrev pub CheckPrints : (most : ℕ) → List (List ℕ) → Told → Option (List ℕ) → Option (List ℕ) → Type 0
CheckPrints most words files old new =
    (f : Files) → words ≡ check_words f → PrintsBy (audited most (files Dump f.dump) (files Btf f.btf) (files Map f.map) (files Plan f.plan)) old new

-- each output of a check has such a status
abbrev pub ChecksEnd : Type 0
ChecksEnd =
    (most : ℕ) (cert : List CertStep) (f : Files) (files : Slot → Option (List ℕ)) → IfSome (out most (check_words f) files)
    (λ output. EndsBy (audited most (files Dump) (files Btf) (files Map) (files Plan)) (output_written cert output).status)
