-- What the code answers on what reading memory gave.
use Rattle.std.specs.Prelude.{◌≡◌, ⊤, Result, Ok, Err}
use Rattle.std.specs.Global.{Vec}
use Rattle.std.specs.Prelude.{ℕ}
use Rattle.kc_memory.specs.Stopped.{Stopped}
use Rattle.kc_files.specs.declared.unread.Unread.{Unread}
use Rattle.kc_files.specs.declared.unread.Unread.TheVariants.{Miss, Fault, Table, Log, NoMemory}
use Rattle.kc_command.specs.declared.refusal.Refusal.TheVariants as refusals
use Rattle.kc_command.specs.declared.halt.Halt.{Halt}
use Rattle.kc_command.specs.declared.halt.Halt.TheVariants.{Refused, Store, Memory}
use Rattle.kc_command.specs.declared.ends.answer.Answer.{Answer}
use Rattle.kc_command.specs.declared.ends.answer.Answer.TheVariants.{Done}
use Rattle.kc_command.specs.Ends.Answers.{written_by}
use Rattle.kc_files.specs.Made.{Broken, files_written}

-- a miss is shown, unless no memory was left
abbrev pub ShowsMiss : Stopped → Result Answer Halt → Type 0
ShowsMiss s (Ok answer) = written_by answer ≡ files_written (Broken s)
ShowsMiss s (Err (Refused refusal)) = ⊥
ShowsMiss s (Err Store) = ⊥
ShowsMiss s (Err Memory) = ⊤

abbrev pub IsStopped : Unread → Result Answer Halt → Type 0
IsStopped (Miss s) r = ShowsMiss s r
IsStopped Fault r = r ≡ Err Store
IsStopped (Table fault) r = r ≡ Err (Refused (refusals.Tables fault))
IsStopped (Log fault) r = r ≡ Err (Refused (refusals.Log fault))
IsStopped NoMemory r = r ≡ Err Memory

-- the bytes are the text of an answer
abbrev pub IsAnswer : Result (Vec ℕ) Unread → Result Answer Halt → Type 0
IsAnswer (Ok bytes) r = r ≡ Ok (Done bytes)
IsAnswer (Err stop) r = IsStopped stop r
