-- What reading in code answers, as a format says.
use Rattle.std.specs.Prelude.{◌≡◌, ℕ, List, Result, Ok, Err}
use Rattle.std.specs.Borrow.{Bor}

-- the value and the bytes after its text, or the bytes from the one on where they fit no text
abbrev pub Gives : {A X : Type 0} → (A → X × List ℕ) → Result A (Bor (List ℕ)) → Result (X × List ℕ) (List ℕ) → Type 0
Gives view (Ok a) said = said ≡ Ok (view a)
Gives view (Err rest) said = said ≡ Err rest.now
