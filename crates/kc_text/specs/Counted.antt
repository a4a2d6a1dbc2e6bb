-- Formats of texts that begin with how many parts follow, and of texts that end with the bytes.
use Rattle.std.specs.Prelude.{◌≡◌, ℕ, zero, suc, ◌^◌, ◌<◌, List, [], ◌∷◌, ◌++◌, length, decimal, codes, Result, Ok, Err, All}
use Rattle.kc_text.specs.Format.{Format}
use Rattle.kc_text.specs.Reading.{and_then}
use Rattle.kc_text.specs.Readers.{decimal_and}
use Rattle.kc_text.specs.Compose.{both, mapped, nothing, texts}

-- so many values
abbrev pub AreSo : {X : Type 0} → (X → Type 0) → ℕ → List X → Type 0
AreSo Good n xs = (length xs ≡ n) × All Good xs

-- one value before others
abbrev pub put : {X : Type 0} → X × List X → List X
put p = p.0 ∷ p.1

-- so many values, each with its text
unfoldable pub times : {X : Type 0} → Format X → ℕ → Format (List X)
times f zero = mapped (λ xs. xs) (AreSo f.Good 0) (texts f.spell) (nothing [])
times f (suc n) = mapped put (AreSo f.Good (suc n)) (texts f.spell) (both f (λ _. times f n))

-- fewer than 2^64 values
abbrev pub AreCounted : {X : Type 0} → (X → Type 0) → List X → Type 0
AreCounted Good xs = (length xs < 2 ^ 64) × All Good xs

abbrev pub counted_text : {X : Type 0} → (X → List ℕ) → List X → List ℕ
counted_text spell xs = decimal (length xs) ++ codes "\n" ++ texts spell xs

-- their number in a line, and then each with its text
abbrev pub counted : {X : Type 0} → Format X → Format (List X)
counted f = mapped (λ p. p.1) (AreCounted f.Good) (counted_text f.spell) (both (decimal_and 10) (λ n. times f n))

-- the bytes end where the text does
abbrev pub ended_by : {X : Type 0} → X → List ℕ → Result (X × List ℕ) (List ℕ)
ended_by x [] = Ok (x, [])
ended_by x (c ∷ cs) = Err (c ∷ cs)

abbrev pub ended : {X : Type 0} → Format X → Format X
ended f = record { Good = f.Good; spell = f.spell; read = λ bytes. and_then (f.read bytes) (λ r. ended_by r.0 r.1) }
