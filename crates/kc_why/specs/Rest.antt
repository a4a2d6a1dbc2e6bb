-- What the sinks took before the rest of an answer is put, or before there was none.
use Rattle.std.specs.Prelude.{◌≡◌, ⊤, ◌⊎◌, ℕ, List, [], ◌++◌, length, Option, Some, None, option_map, Result, Ok, Err}
use Rattle.kc_outside.specs.declared.store.Slot.{Slot}
use Rattle.kc_outside.specs.Files.{Files}
use Rattle.kc_outside.specs.Texts.{with_piece}
use Rattle.kc_text.specs.Compose.{texts}
use Rattle.kc_command.specs.declared.halt.Halt.{Halt}
use Rattle.kc_command.specs.declared.halt.Halt.TheVariants.{Refused, Store, Memory}
use Rattle.kc_command.specs.Made.{Made}
use Rattle.kc_command.specs.declared.ends.answer.Answer.{Answer}
use Rattle.kc_command.specs.declared.ends.status.Status.TheVariants.{Done}
use Rattle.kc_command.specs.Ends.Answers.{StayBehind, written_by}
use Rattle.kc_command.specs.Ends.Asked.{Asked, asked_files}
use Rattle.kc_command.specs.Ends.Ends.{TookOut, TookPrefix}
use Rattle.kc_command.specs.Ends.Output.{ended}
use Rattle.kc_command.specs.Ends.Written.{Written}
use Rattle.kc_sight.specs.declared.refs.place.FoundWord.{FoundWord}
use Rattle.kc_refs.specs.Lines.{found_lines}
use Rattle.kc_why.specs.Searching.{keys_in}
use Rattle.kc_why.specs.WordText.{rest_text}
use Rattle.kc_found.specs.Violations.{Violation}
use Rattle.kc_owner.specs.declared.object.keys.FreeKeys.{FreeKeys}

-- what is written, with a front before its text, and lines before what standard error takes
abbrev pub after : List ℕ → List ℕ → Written → Written
after front lines w = record { out = front ++ w.out; err = lines ++ w.err; status = w.status }

-- the sinks took the front of what is written and the lines, and an answer is the rest
pub record HasRest {A : Type 0} (write : A → Written) (made : Made A) (answer : Answer) (old new err_old err_new : Option (List ℕ)) : Type 0 where
  pub front : List ℕ
  pub lines : List ℕ
  pub took : new ≡ with_piece old front
  pub said : err_new ≡ with_piece err_old lines
  pub whole : option_map (ended write) made ≡ Some (after front lines (written_by answer))

-- it took nothing, or a first part of what is written
abbrev pub TookFront : Option Written → Option (List ℕ) → Option (List ℕ) → Type 0
TookFront written old new = (new ≡ old) ⊎ TookOut written old new

-- what the code came to, and what the sinks took before: nothing before a refusal
abbrev pub Leaves : {A : Type 0} → (A → Written) → Made A → Result Answer Halt → Option (List ℕ) → Option (List ℕ) → Option (List ℕ) → Option (List ℕ) → Type 0
Leaves write made (Ok answer) old new err_old err_new = HasRest write made answer old new err_old err_new
Leaves write made (Err (Refused refusal)) old new err_old err_new = (made ≡ Some (Err refusal)) × (new ≡ old) × (err_new ≡ err_old)
Leaves write made (Err Store) old new err_old err_new = TookFront (option_map (ended write) made) old new
Leaves write made (Err Memory) old new err_old err_new = TookFront (option_map (ended write) made) old new

-- the same of the files, and of the bytes of one file, where they are told
abbrev pub LeavesOf : {A : Type 0} → (A → Written) → (Files → Made A) → Option Files → Result Answer Halt → Option (List ℕ) → Option (List ℕ) → Option (List ℕ) → Option (List ℕ) → Type 0
LeavesOf write made None r old new err_old err_new = ⊤
LeavesOf write made (Some files) r old new err_old err_new = Leaves write (made files) r old new err_old err_new

abbrev pub LeavesOfBytes : {A : Type 0} → (A → Written) → (List ℕ → Made A) → Option (List ℕ) → Result Answer Halt → Option (List ℕ) → Option (List ℕ) → Option (List ℕ) → Option (List ℕ) → Type 0
LeavesOfBytes write made None r old new err_old err_new = ⊤
LeavesOfBytes write made (Some bytes) r old new err_old err_new = Leaves write (made bytes) r old new err_old err_new

-- where the sink failed, it had taken a first part
abbrev pub PartOf : {A : Type 0} → (A → Written) → (Files → Made A) → Option Files → Option (List ℕ) → Option (List ℕ) → Type 0
PartOf write made None old new = ⊤
PartOf write made (Some files) old new = TookOut (option_map (ended write) (made files)) old new

abbrev pub PartOfBytes : {A : Type 0} → (A → Written) → (List ℕ → Made A) → Option (List ℕ) → Option (List ℕ) → Option (List ℕ) → Type 0
PartOfBytes write made None old new = ⊤
PartOfBytes write made (Some bytes) old new = TookOut (option_map (ended write) (made bytes)) old new

-- what words came to that ask for something, and what was taken before
pub record Came {A : Type 0} (write : A → Written) (asks : Option (Asked A)) (files : Option Files) (r : Result Answer Halt) (opened_old opened_new : Slot → Option (List ℕ)) (old new err_old err_new : Option (List ℕ)) : Type 0 where
  pub asked : Asked A
  pub is : asks ≡ Some asked
  pub leaves : LeavesOf write (λ f. asked.made (asked_files asked f)) files r old new err_old err_new
  pub unopened : StayBehind asked.named r opened_old opened_new

-- the same of words that may not be a command
abbrev pub Comes : {A : Type 0} → (A → Written) → Option (Asked A) → Option Files → Option (Result Answer Halt) → (Slot → Option (List ℕ)) → (Slot → Option (List ℕ)) → Option (List ℕ) → Option (List ℕ) → Option (List ℕ) → Option (List ℕ) → Type 0
Comes write asks files None opened_old opened_new old new err_old err_new = (asks ≡ None) × (new ≡ old) × (err_new ≡ err_old)
Comes write asks files (Some r) opened_old opened_new old new err_old err_new = Came write asks files r opened_old opened_new old new err_old err_new

-- what is said where a file is refused, and where words aren't a command
abbrev pub OnRefused : Option (Result Answer Halt) → Type 0 → Type 0
OnRefused None P = P
OnRefused (Some (Ok answer)) P = ⊤
OnRefused (Some (Err (Refused refusal))) P = P
OnRefused (Some (Err Store)) P = ⊤
OnRefused (Some (Err Memory)) P = ⊤

-- what a search for words leaves: their lines were taken, and the answer is what follows them
pub record IsRest (keys : Option (Result FreeKeys Violation)) (found : List FoundWord) (answer : Answer) (old new : Option (List ℕ)) : Type 0 where
  pub took : new ≡ with_piece old (texts (found_lines (keys_in keys)) found)
  pub rest : written_by answer ≡ record { out = rest_text keys (length found); err = []; status = Done }

abbrev pub Searches : Option (Result FreeKeys Violation) → List FoundWord → Result Answer Halt → Option (List ℕ) → Option (List ℕ) → Type 0
Searches keys found (Ok answer) old new = IsRest keys found answer old new
Searches keys found (Err (Refused refusal)) old new = ⊥
Searches keys found (Err Store) old new = TookPrefix old new (texts (found_lines (keys_in keys)) found)
Searches keys found (Err Memory) old new = TookPrefix old new (texts (found_lines (keys_in keys)) found)
