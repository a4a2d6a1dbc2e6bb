-- What standard error took of how far a search is, before anything else.
use Rattle.std.specs.Prelude.{◌≡◌, ⊤, ◌⊎◌, ℕ, ◌+◌, Bool, false, List, [], Option, Some, None, option_map, IfSome, Result, Ok, Err}
use Rattle.kc_outside.specs.Files.{Files}
use Rattle.kc_outside.specs.Texts.{with_piece}
use Rattle.kc_command.specs.declared.halt.Halt.{Halt}
use Rattle.kc_command.specs.declared.ends.answer.Answer.{Answer}
use Rattle.kc_command.specs.Ends.Ends.{TookPrefix}
use Rattle.kc_command.specs.Ends.Written.{Written}
use Rattle.kc_refs.specs.Progress.{TookUntil, lines_to, read_lines}
use Rattle.kc_why.specs.declared.files.FailedSink.{FailedSink}
use Rattle.kc_why.specs.declared.files.FailedSink.TheVariants.{Shown, Progress}
use Rattle.kc_why.specs.Why.{follows, written_of}

-- lines of progress are the first of a text that has no others
pub record IsFirst (lines text : List ℕ) : Type 0 where
  pub all : ℕ
  pub count : ℕ
  pub more : ℕ
  pub first : lines ≡ read_lines all 0 count
  pub whole : text ≡ read_lines all 0 (count + more)

-- they are the first of what is written to standard error, or there are none
abbrev pub AreLines : List ℕ → Option Written → Type 0
AreLines lines None = lines ≡ []
AreLines lines (Some w) = (lines ≡ []) ⊎ IsFirst lines w.err

-- A sink took lines: none where none are wanted, and the first of those that are written, where that is told.
pub record TookLines (wanted : Bool) (written : Option (Option Written)) (old new : Option (List ℕ)) : Type 0 where
  pub lines : List ℕ
  pub took : new ≡ with_piece old lines
  pub unwanted : wanted ≡ false → lines ≡ []
  pub told : IfSome written (AreLines lines)

-- and what is said of it after them
pub record After (wanted : Bool) (written : Option (Option Written)) (old : Option (List ℕ)) (P : Option (List ℕ) → Type 0) : Type 0 where
  pub mid : Option (List ℕ)
  pub took : TookLines wanted written old mid
  pub then : P mid

-- the same of the words after the program's name and of a store's files
abbrev pub TookProgress : List (List ℕ) → Option Files → Option (List ℕ) → Option (List ℕ) → Type 0
TookProgress words files old new = TookLines (follows words) (option_map (written_of words) files) old new

abbrev pub AfterProgress : List (List ℕ) → Option Files → Option (List ℕ) → (Option (List ℕ) → Type 0) → Type 0
AfterProgress words files old P = After (follows words) (option_map (written_of words) files) old P

-- what is said where one sink failed, and where it didn't
abbrev pub OnShown : {A : Type 0} → Result A FailedSink → Type 0 → Type 0
OnShown (Ok a) P = ⊤
OnShown (Err Shown) P = P
OnShown (Err Progress) P = ⊤

abbrev pub UnlessShown : {A : Type 0} → Result A FailedSink → Type 0 → Type 0
UnlessShown (Ok a) P = P
UnlessShown (Err Shown) P = ⊤
UnlessShown (Err Progress) P = P

abbrev pub OnProgress : {A : Type 0} → Result A FailedSink → Type 0 → Type 0
OnProgress (Ok a) P = ⊤
OnProgress (Err Shown) P = ⊤
OnProgress (Err Progress) P = P

abbrev pub UnlessProgress : {A : Type 0} → Result A FailedSink → Type 0 → Type 0
UnlessProgress (Ok a) P = P
UnlessProgress (Err Shown) P = P
UnlessProgress (Err Progress) P = ⊤

-- what a search says of so many words: all of it before an answer, what was due where it came to none, and a first part where that sink failed
abbrev pub SearchSays : Option ℕ → ℕ → Result (Result Answer Halt) FailedSink → Option (List ℕ) → Option (List ℕ) → Type 0
SearchSays goal words (Ok (Ok answer)) old new = new ≡ with_piece old (lines_to goal 0 words)
SearchSays goal words (Ok (Err halt)) old new = TookUntil goal 0 words old new
SearchSays goal words (Err Shown) old new = TookUntil goal 0 words old new
SearchSays goal words (Err Progress) old new = TookPrefix old new (lines_to goal 0 words)
