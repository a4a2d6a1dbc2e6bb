-- What a command line prints and ends with, as a function of its words and files, and of a certificate where one is printed.
use Rattle.std.specs.Prelude.{◌≡◌, ⊤, ℕ, List, Option, Some, None, IfSome, Ok, Err}
use Rattle.kc_outside.specs.declared.store.Slot.{Slot}
use Rattle.kc_outside.specs.Files.{Files}
use Rattle.kc_outside.specs.Texts.{with_piece}
use Rattle.kc_cert.specs.declared.text.certificate.CertStep.{CertStep}
use Rattle.kc_command.specs.declared.ends.status.Status.{Status}
use Rattle.kc_command.specs.Ends.Ends.{ErrFailed, IsTold, TookPart}
use Rattle.kc_command.specs.Ends.Output.{Output, Usage, Ends, output_of, word_files, written, written_files}
use Rattle.kc_command.specs.Ends.Written.{Written}
use Rattle.kc_app.specs.Program.{program, usage_text}
use Rattle.kc_app.specs.Reply.{Reply, CertificateOf, Fits, Rechecks, Shows, reply_written}
use Rattle.kc_app.specs.Shown.{IsTrueOfDump}

-- the output of the words after the program's name. A file is the bytes that a slot's word stands for.
abbrev pub out : (most : ℕ) → List (List ℕ) → (Slot → Option (List ℕ)) → Option (Output Reply)
out most words files = output_of (program most words) files

-- and over a store's files
abbrev pub out_of : (most : ℕ) → List (List ℕ) → Files → Option (Output Reply)
out_of most words files = out most words (word_files (program most words) files)

-- what is written of an output, by the certificate that is printed where one is
abbrev pub output_written : List CertStep → Output Reply → Written
output_written cert output = written usage_text (reply_written cert) output

-- and of that over a store's files
abbrev pub written_of : (most : ℕ) → List CertStep → List (List ℕ) → Files → Option Written
written_of most cert words files = written_files usage_text (reply_written cert) (program most words) files

-- the certificate is one of the memory, where one is printed
abbrev pub FitsOutput : List CertStep → Option (Output Reply) → Type 0
FitsOutput cert None = ⊤
FitsOutput cert (Some Usage) = ⊤
FitsOutput cert (Some (Ends (Ok reply))) = Fits cert reply
FitsOutput cert (Some (Ends (Err refusal))) = ⊤

-- the words that a reply shows are true of the dump
abbrev pub IsTrueReply : Reply → Type 0
IsTrueReply (Shows shown) = IsTrueOfDump shown
IsTrueReply (CertificateOf image audits) = ⊤
IsTrueReply (Rechecks found) = ⊤

-- and so are those of an output
abbrev pub StandsIn : Output Reply → Type 0
StandsIn Usage = Unit {0}
StandsIn (Ends (Ok reply)) = IsTrueReply reply
StandsIn (Ends (Err refusal)) = Unit {0}

-- of each output
abbrev pub ShownStand : Type 0
ShownStand = (most : ℕ) (words : List (List ℕ)) (files : Slot → Option (List ℕ)) → IfSome (out most words files) StandsIn

-- Standard output took the text of an output whose words are true of the dump. The certificate fits, where one is printed; for
-- any other output it says nothing.
abbrev pub TookTrue : Option (Output Reply) → Option (List ℕ) → Option (List ℕ) → Type 0
TookTrue None old new = ⊥
TookTrue (Some output) old new =
    (cert : List CertStep) × FitsOutput cert (Some output) × (new ≡ with_piece old (output_written cert output).out) × StandsIn output

-- where the files are told, a certificate fits their output, if one is printed
abbrev pub FitsFiles : (most : ℕ) → List CertStep → List (List ℕ) → Option Files → Type 0
FitsFiles most cert words files = IfSome files (λ f. FitsOutput cert (out_of most words f))

-- the program ended as the output of the words and the files says
abbrev pub IsToldBy : (most : ℕ) → List (List ℕ) → Option Files → Status → Option (List ℕ) → Option (List ℕ) → Option (List ℕ) → Option (List ℕ) → Type 0
IsToldBy most words files status out_old out_new err_old err_new =
    (cert : List CertStep) × FitsFiles most cert words files × IsTold (written_of most cert words) files status out_old out_new err_old err_new

-- what standard output took where it failed: a prefix of the output's text
abbrev pub TookPartBy : (most : ℕ) → List (List ℕ) → Option Files → Option (List ℕ) → Option (List ℕ) → Type 0
TookPartBy most words files old new = (cert : List CertStep) × FitsFiles most cert words files × TookPart (written_of most cert words) files old new

-- what standard error took where it alone failed, for which it doesn't matter what certificate is printed
abbrev pub ErrFailedBy : (most : ℕ) → List (List ℕ) → Option Files → Type 0 → Option (List ℕ) → Option (List ℕ) → Type 0
ErrFailedBy most words files store_rose old new = (cert : List CertStep) × ErrFailed (written_of most cert words) files store_rose old new
