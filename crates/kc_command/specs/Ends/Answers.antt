-- What the code's answers are.
use Rattle.std.specs.Prelude.{◌≡◌, ⊤, ℕ, List, [], Option, Some, None, option_map, Result, Ok, Err}
use Rattle.kc_outside.specs.declared.store.Slot.{Slot}
use Rattle.kc_outside.specs.Files.{Files}
use Rattle.kc_command.specs.declared.halt.Halt.{Halt}
use Rattle.kc_command.specs.declared.halt.Halt.TheVariants.{Refused, Store, Memory}
use Rattle.kc_command.specs.Made.{Halts, Made}
use Rattle.kc_command.specs.Slots.{refused_slot}
use Rattle.kc_command.specs.declared.ends.answer.Answer.{Answer}
use Rattle.kc_command.specs.declared.ends.answer.Answer.TheVariants.{Done, Broken}
use Rattle.kc_command.specs.declared.ends.status.Status.TheVariants as status
use Rattle.kc_command.specs.Ends.Asked.{AllStay, Asked, Named, asked_files, behind}
use Rattle.kc_command.specs.Ends.Output.{ended}
use Rattle.kc_command.specs.Ends.Written.{Written, refused_with, usage_with}

-- what an answer writes
abbrev pub written_by : Answer → Written
written_by (Done text) = record { out = text.items; err = []; status = status.Done }
written_by (Broken text) = record { out = text.items; err = []; status = status.Broken }

-- the code ends as is made, by what is written of what is shown
abbrev pub Prints : {A : Type 0} → (A → Written) → Made A → Result Answer Halt → Type 0
Prints write made (Ok answer) = option_map (ended write) made ≡ Some (written_by answer)
Prints write made (Err halt) = Halts made halt

-- the same of the files, where they are told
abbrev pub PrintsOf : {A : Type 0} → (A → Written) → (Files → Made A) → Option Files → Result Answer Halt → Type 0
PrintsOf write made None r = ⊤
PrintsOf write made (Some files) r = Prints write (made files) r

-- the same of the bytes of one file
abbrev pub PrintsOfBytes : {A : Type 0} → (A → Written) → (List ℕ → Made A) → Option (List ℕ) → Result Answer Halt → Type 0
PrintsOfBytes write made None r = ⊤
PrintsOfBytes write made (Some bytes) r = Prints write (made bytes) r

-- where a file is refused, the files after it aren't opened: their slots are as before
abbrev pub StayBehind : {A : Type 0} → List Named → Result A Halt → (Slot → Option (List ℕ)) → (Slot → Option (List ℕ)) → Type 0
StayBehind named (Ok a) old new = ⊤
StayBehind named (Err (Refused refusal)) old new = AllStay (behind (refused_slot refusal) named) old new
StayBehind named (Err Store) old new = ⊤
StayBehind named (Err Memory) old new = ⊤

-- a refusal is about the last file, or about none
abbrev pub RefusesLast : {A : Type 0} → List Named → Result A Halt → Type 0
RefusesLast named (Ok a) = ⊤
RefusesLast named (Err (Refused refusal)) = behind (refused_slot refusal) named ≡ []
RefusesLast named (Err Store) = ⊤
RefusesLast named (Err Memory) = ⊤

-- the code answers what the words ask for, or that they aren't a command
pub record Answers {A : Type 0} (write : A → Written) (asks : Option (Asked A)) (files : Option Files) (r : Result Answer Halt) (old new : Slot → Option (List ℕ)) : Type 0 where
  pub asked : Asked A
  pub is : asks ≡ Some asked
  pub prints : PrintsOf write (λ f. asked.made (asked_files asked f)) files r
  pub unopened : StayBehind asked.named r old new

abbrev pub Runs : {A : Type 0} → (A → Written) → Option (Asked A) → Option Files → Option (Result Answer Halt) → (Slot → Option (List ℕ)) → (Slot → Option (List ℕ)) → Type 0
Runs write asks files None old new = asks ≡ None
Runs write asks files (Some r) old new = Answers write asks files r old new

-- what is written of what the words come to: none where the store failed or no memory was left
abbrev pub ending : List ℕ → Option (Result Answer Halt) → Option Written
ending usage None = Some (usage_with usage)
ending usage (Some (Ok answer)) = Some (written_by answer)
ending usage (Some (Err (Refused refusal))) = Some (refused_with refusal)
ending usage (Some (Err Store)) = None
ending usage (Some (Err Memory)) = None

-- what is said where there is no command
abbrev pub OnNone : Option (Result Answer Halt) → Type 0 → Type 0
OnNone None P = P
OnNone (Some r) P = ⊤

-- what is said where the store failed in a command, and where it didn't
abbrev pub OnStoreIn : Option (Result Answer Halt) → Type 0 → Type 0
OnStoreIn None P = ⊤
OnStoreIn (Some (Ok answer)) P = ⊤
OnStoreIn (Some (Err (Refused refusal))) P = ⊤
OnStoreIn (Some (Err Store)) P = P
OnStoreIn (Some (Err Memory)) P = ⊤

abbrev pub UnlessStoreIn : Option (Result Answer Halt) → Type 0 → Type 0
UnlessStoreIn None P = P
UnlessStoreIn (Some (Ok answer)) P = P
UnlessStoreIn (Some (Err (Refused refusal))) P = P
UnlessStoreIn (Some (Err Store)) P = ⊤
UnlessStoreIn (Some (Err Memory)) P = P

-- memory was wanting, or a refusal's line needs some
abbrev pub NeedsMemory : Option (Result Answer Halt) → Type 0
NeedsMemory None = ⊥
NeedsMemory (Some (Ok answer)) = ⊥
NeedsMemory (Some (Err (Refused refusal))) = ⊤
NeedsMemory (Some (Err Store)) = ⊥
NeedsMemory (Some (Err Memory)) = ⊤
