-- What a sink took.
use Rattle.std.specs.Prelude.{ℕ, List, ◌++◌, Option, Some, None}

-- the text with a piece more, where the text is told
abbrev pub with_piece : Option (List ℕ) → List ℕ → Option (List ℕ)
with_piece None piece = None
with_piece (Some text) piece = Some (text ++ piece)
