-- The first of some things in which something is found.
use Rattle.std.specs.Prelude.{List, [], ◌∷◌, Option, Some, None, Result, Ok}
use Rattle.kc_found.specs.Trials.{and_then}
use Rattle.kc_found.specs.Violations.{Violation}

-- what was found, or what comes of the rest
abbrev pub or_else : {B : Type 0} → Result (Option B) Violation → Option B → Result (Option B) Violation
or_else rest None = rest
or_else rest (Some b) = Ok (Some b)

-- what is found first in some things, one after the other, or the violation that ends the search before
unfoldable pub first_of : {A B : Type 0} → (A → Result (Option B) Violation) → List A → Result (Option B) Violation
first_of go [] = Ok None
first_of go (x ∷ xs) = and_then (go x) (or_else (first_of go xs))
