-- What the code's answers are.
use Rattle.std.specs.Prelude.{◌≡◌, ⊤, ℕ, [], List, Result, Ok, Err}
use Rattle.kc_memory.specs.declared.space.Stop.{Stop}
use Rattle.kc_memory.specs.declared.space.Stop.TheVariants.{Miss, Fault}
use Rattle.kc_memory.specs.declared.words.Place.{Place}
use Rattle.kc_memory.specs.Places.{entry_places}
use Rattle.kc_command.specs.declared.halt.Halt.{Halt}
use Rattle.kc_command.specs.declared.halt.Halt.TheVariants.{Refused, Store, Memory}
use Rattle.kc_command.specs.declared.ends.answer.Answer.{Answer}
use Rattle.kc_command.specs.declared.ends.status.Status.{Status}
use Rattle.kc_command.specs.Ends.Answers.{written_by}
use Rattle.kc_app.specs.Shown.{RootSeen, Said, Stop as StopSaid, rooted_text, roots_status, said_status, seen_text}

-- a text is written, with a status, unless no memory was left
abbrev pub WritesText : List ℕ → Status → Result Answer Halt → Type 0
WritesText text status (Ok answer) = written_by answer ≡ record { out = text; err = []; status = status }
WritesText text status (Err (Refused refusal)) = ⊥
WritesText text status (Err Store) = ⊥
WritesText text status (Err Memory) = ⊤

-- so is what is said of words of a dump
abbrev pub Writes : Said → List Place → Result Answer Halt → Type 0
Writes said places r = WritesText (seen_text said places) (said_status said) r

-- and what is said of root audits
abbrev pub WritesRoots : List RootSeen → Result Answer Halt → Type 0
WritesRoots roots r = WritesText (rooted_text roots) (roots_status roots) r

-- a miss is shown, and a failure of the space is one of the store
abbrev pub IsStopped : Stop → Result Answer Halt → Type 0
IsStopped (Miss s) r = Writes (StopSaid s.rule s.va s.level s.pa) (entry_places s.pa s.entry) r
IsStopped Fault r = r ≡ Err Store
