-- What reading a certificate answers, by its formats.
use Rattle.std.specs.Prelude.{◌≡◌, ℕ, List, [], ◌∷◌, ◌++◌, Result, Ok, Err, ⊤}
use Rattle.std.specs.Borrow.{Bor}
use Rattle.kc_text.specs.Reading.{and_then}
use Rattle.kc_cert.specs.declared.text.read.TextStop.{TextStop}
use Rattle.kc_cert.specs.declared.text.read.TextStop.TheVariants.{At, NoMemory}
use Rattle.kc_cert.specs.Text.CertTexts.{list_format, step_parts}
use Rattle.kc_text.specs.Counted.{counted}

-- one value more, and the bytes after its text
abbrev pub AddsOne : {X : Type 0} → Result (X × List ℕ) (List ℕ) → List X → List X → Result (Bor (List ℕ)) TextStop → Type 0
AddsOne {X} said old new (Ok next) = (x : X) × (said ≡ Ok (x, next.now)) × (new ≡ old ++ x ∷ [])
AddsOne said old new (Err (At stop)) = said ≡ Err stop.now
AddsOne said old new (Err NoMemory) = ⊤

-- these values more, and the bytes after their texts
abbrev pub AddsAll : {X : Type 0} → Result (List X × List ℕ) (List ℕ) → List X → List X → Result (Bor (List ℕ)) TextStop → Type 0
AddsAll {X} said old new (Ok next) = (xs : List X) × (said ≡ Ok (xs, next.now)) × (new ≡ old ++ xs)
AddsAll said old new (Err (At stop)) = said ≡ Err stop.now
AddsAll said old new (Err NoMemory) = ⊤

-- the lists are read from the bytes after the head, or the head stops where the step does
abbrev pub HeadGives : Result ((ℕ × ℕ) × Bor (List ℕ)) (Bor (List ℕ)) → List ℕ → Type 0
HeadGives (Ok r) bytes = step_parts.read bytes ≡ and_then ((counted list_format).read r.1.now) (λ s. Ok ((r.0.0, (r.0.1, s.0)), s.1))
HeadGives (Err rest) bytes = step_parts.read bytes ≡ Err rest.now
