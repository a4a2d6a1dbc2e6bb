-- What stays of a store whose files a command reads.
use Rattle.std.specs.Prelude.{◌≡◌, ℕ, ◌≤◌, Option, Result}
use Rattle.kc_outside.specs.Counts.{Rose}
use Rattle.kc_outside.specs.Files.{Files}
use Rattle.kc_command.specs.declared.halt.Halt.{Halt}
use Rattle.kc_command.specs.declared.ends.answer.Answer.{Answer}
use Rattle.kc_command.specs.Ends.Answers.{OnStoreIn, UnlessStoreIn}
use Rattle.kc_command.specs.Halts.{OnStore, UnlessStore}

-- no file changes, and a call failed exactly where the command ended so
pub record ReadsFiles {S A : Type 0} (files : S → Option Files) (faults : S → ℕ) (r : Result A Halt) (old new : S) : Type 0 where
  pub same : files new ≡ files old
  pub later : faults old ≤ faults new
  pub quiet : UnlessStore r (faults new ≡ faults old)
  pub cause : OnStore r (Rose (faults old) (faults new))

-- the same where there may be no command
pub record ReadsFilesIn {S : Type 0} (files : S → Option Files) (faults : S → ℕ) (r : Option (Result Answer Halt)) (old new : S) : Type 0 where
  pub same : files new ≡ files old
  pub later : faults old ≤ faults new
  pub quiet : UnlessStoreIn r (faults new ≡ faults old)
  pub cause : OnStoreIn r (Rose (faults old) (faults new))
