-- The output of a command line, as a function of its words and files.
use Rattle.std.specs.Prelude.{ℕ, List, Option, Some, None, option_and_then, option_map, Result, Ok, Err}
use Rattle.kc_outside.specs.declared.store.Slot.{Slot}
use Rattle.kc_outside.specs.Files.{Files}
use Rattle.kc_command.specs.declared.refusal.Refusal.{Refusal}
use Rattle.kc_command.specs.Made.{Made}
use Rattle.kc_command.specs.Ends.Asked.{Asked, word_in}
use Rattle.kc_command.specs.Ends.Written.{Written, refused_with, usage_with}

-- usage, or how a command ends: with what it shows, or with a refusal
pub data Output (A : Type 0) : Type 0 where
  Usage : Output A
  Ends : Result A Refusal → Output A

-- what is written of how a command ends, by what is written of what it shows
abbrev pub ended : {A : Type 0} → (A → Written) → Result A Refusal → Written
ended write (Ok shown) = write shown
ended write (Err refusal) = refused_with refusal

-- and of an output
abbrev pub written : {A : Type 0} → List ℕ → (A → Written) → Output A → Written
written usage write Usage = usage_with usage
written usage write (Ends result) = ended write result

-- the output of what a command makes, or none where it needs a file that isn't there
abbrev pub output_made : {A : Type 0} → Made A → Option (Output A)
output_made made = option_map Ends made

-- the same of words that may not be a command
abbrev pub output_of : {A : Type 0} → Option (Asked A) → (Slot → Option (List ℕ)) → Option (Output A)
output_of None files = Some Usage
output_of (Some asked) files = output_made (asked.made files)

-- what the words of the slots stand for in a store
abbrev pub word_files : {A : Type 0} → Option (Asked A) → Files → Slot → Option (List ℕ)
word_files asked files slot = option_and_then (files slot) (word_in asked slot)

-- and so what is written of the output over a store's files
abbrev pub written_files : {A : Type 0} → List ℕ → (A → Written) → Option (Asked A) → Files → Option Written
written_files usage write asked files = option_map (written usage write) (output_of asked (word_files asked files))
