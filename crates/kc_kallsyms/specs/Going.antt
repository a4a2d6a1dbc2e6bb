-- How far a reading of a list has come.
use Rattle.std.specs.Prelude.{◌≡◌, ⊤, List, ◌++◌, Option, Some, None, Result, Ok}
use Rattle.kc_kallsyms.specs.Reading.{◌>>=◌, Why}

-- These were read, and what is left to be read makes the whole with them.
pub record Going {X : Type 0} (Holds : List X → Type 0) (whole rest : Result (List X) Why) : Type 0 where
  pub done : List X
  pub holds : Holds done
  pub same : rest >>= (λ xs. Ok (done ++ xs)) ≡ whole

-- the same of a dump, where it is told
abbrev pub GoesAs : {I X : Type 0} → (List X → Type 0) → (I → Result (List X) Why) → (I → Result (List X) Why) → Option I → Type 0
GoesAs Holds whole rest None = ⊤
GoesAs Holds whole rest (Some image) = Going Holds (whole image) (rest image)

-- all was read
pub record Came {X : Type 0} (Holds : List X → Type 0) (whole : Result (List X) Why) : Type 0 where
  pub all : List X
  pub holds : Holds all
  pub is : whole ≡ Ok all

abbrev pub CameAs : {I X : Type 0} → (List X → Type 0) → (I → Result (List X) Why) → Option I → Type 0
CameAs Holds whole None = ⊤
CameAs Holds whole (Some image) = Came Holds (whole image)
