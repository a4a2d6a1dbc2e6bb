-- What the code's answers are, where a certificate is chosen.
use Rattle.std.specs.Prelude.{◌≡◌, ⊤, ℕ, List, Option, Some, None, Result, Ok, Err}
use Rattle.kc_outside.specs.declared.store.Slot.{Slot}
use Rattle.kc_outside.specs.Files.{Files}
use Rattle.kc_cert.specs.declared.text.certificate.CertStep.{CertStep}
use Rattle.kc_command.specs.declared.halt.Halt.{Halt}
use Rattle.kc_command.specs.Made.{Halts, Made, gives}
use Rattle.kc_command.specs.declared.ends.answer.Answer.{Answer}
use Rattle.kc_command.specs.Ends.Answers.{StayBehind, written_by}
use Rattle.kc_command.specs.Ends.Asked.{Asked, asked_files}
use Rattle.kc_app.specs.Reply.{Fits, Reply, reply_written}

-- an answer is the text of a reply, by a certificate that fits
pub record IsFitted (made : Made Reply) (answer : Answer) : Type 0 where
  pub cert : List CertStep
  pub reply : Reply
  pub is : made ≡ gives reply
  pub fits : Fits cert reply
  pub prints : reply_written cert reply ≡ written_by answer

-- the code ends as is made
abbrev pub Replies : Made Reply → Result Answer Halt → Type 0
Replies made (Ok answer) = IsFitted made answer
Replies made (Err halt) = Halts made halt

-- the same of the files, where they are told
abbrev pub RepliesOf : (Files → Made Reply) → Option Files → Result Answer Halt → Type 0
RepliesOf made None r = ⊤
RepliesOf made (Some files) r = Replies (made files) r

-- the same of the bytes of one file
abbrev pub RepliesOfBytes : (List ℕ → Reply) → Option (List ℕ) → Result Answer Halt → Type 0
RepliesOfBytes reply None r = ⊤
RepliesOfBytes reply (Some bytes) r = Replies (gives (reply bytes)) r

-- the code answers what the words ask for, or that they aren't a command
pub record RepliesTo (asks : Option (Asked Reply)) (files : Option Files) (r : Result Answer Halt) (old new : Slot → Option (List ℕ)) : Type 0 where
  pub asked : Asked Reply
  pub is : asks ≡ Some asked
  pub replies : RepliesOf (λ f. asked.made (asked_files asked f)) files r
  pub unopened : StayBehind asked.named r old new

abbrev pub RunsAs : Option (Asked Reply) → Option Files → Option (Result Answer Halt) → (Slot → Option (List ℕ)) → (Slot → Option (List ℕ)) → Type 0
RunsAs asks files None old new = asks ≡ None
RunsAs asks files (Some r) old new = RepliesTo asks files r old new
