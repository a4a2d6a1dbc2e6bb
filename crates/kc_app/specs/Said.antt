-- What the code says of a word and of a number.
use Rattle.std.specs.Prelude.{[], ◌∷◌, Result, Ok, Err}
use Rattle.kc_command.specs.declared.halt.Halt.{Halt}
use Rattle.kc_memory.specs.declared.space.Stop.{Stop}
use Rattle.kc_memory.specs.declared.words.VWord.{VWord}
use Rattle.kc_memory.specs.Bits.{Number, number_places}
use Rattle.kc_memory.specs.Places.{place_of}
use Rattle.kc_command.specs.declared.ends.answer.Answer.{Answer}
use Rattle.kc_app.specs.Answer.{IsStopped, Writes}
use Rattle.kc_app.specs.Shown.{Bare, Value}

-- the answer on a word
abbrev pub IsWord : Result VWord Stop → Result Answer Halt → Type 0
IsWord (Ok word) r = Writes Bare (place_of word ∷ []) r
IsWord (Err stop) r = IsStopped stop r

-- the answer on a number
abbrev pub IsNumber : Result Number Stop → Result Answer Halt → Type 0
IsNumber (Ok number) r = Writes (Value number.value) (number_places (Ok number)) r
IsNumber (Err stop) r = IsStopped stop r
