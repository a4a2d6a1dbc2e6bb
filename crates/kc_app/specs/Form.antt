-- The form of a command.
use Rattle.std.specs.Prelude.{ℕ, List, Option}
use Rattle.kc_command.specs.Ends.Asked.{Asked}

-- a command: its name, its words as usage shows them, each way to write them, and what the words after the name ask for,
-- if they are its words
pub record Form (A : Type 0) : Type 0 where
  pub name : List ℕ
  pub words : List (List ℕ)
  pub asks : List (List ℕ) → Option (Asked A)
