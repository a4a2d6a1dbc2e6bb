-- Formats made of others. Each law is proved once, so a composition has its laws from its parts.
use Rattle.std.specs.Prelude.{◌≡◌, ◌<◌, ℕ, zero, suc, ◌⊎◌, Bool, true, false, ◌==◌, if◌then◌else◌, List, [], ◌∷◌, ◌++◌, length, Option, Some, None, Result, Ok, Err, All}
use Rattle.std.proofs.Common.{inl, inr}
use Rattle.kc_text.specs.Format.{Format}
use Rattle.kc_text.specs.Reading.{and_then, or_else}
use Rattle.kc_text.specs.Readers.{read_literal}

-- one text after another; how the second is written may depend on the first's value
abbrev pub both : {X Y : Type 0} → Format X → (X → Format Y) → Format (X × Y)
both f g = record {
  Good = λ p. f.Good p.0 × (g p.0).Good p.1;
  spell = λ p. f.spell p.0 ++ (g p.0).spell p.1;
  read = λ bytes. and_then (f.read bytes) (λ r. and_then ((g r.0).read r.1) (λ s. Ok ((r.0, s.0), s.1)));
}

-- the same texts, for other values
abbrev pub mapped : {X Y : Type 0} → (X → Y) → (Y → Type 0) → (Y → List ℕ) → Format X → Format Y
mapped to Good spell f = record {
  Good = Good;
  spell = spell;
  read = λ bytes. and_then (f.read bytes) (λ r. Ok (to r.0, r.1));
}

-- nothing is written for this one value
abbrev pub nothing : {X : Type 0} → X → Format X
nothing x = record { Good = λ y. x ≡ y; spell = λ _. []; read = λ bytes. Ok (x, bytes) }

-- either a text of the one or a text of the other
abbrev pub either_good : {X Y : Type 0} → (X → Type 0) → (Y → Type 0) → X ⊎ Y → Type 0
either_good P Q (inl x) = P x
either_good P Q (inr y) = Q y

abbrev pub either_text : {X Y : Type 0} → (X → List ℕ) → (Y → List ℕ) → X ⊎ Y → List ℕ
either_text s t (inl x) = s x
either_text s t (inr y) = t y

abbrev pub either : {X Y : Type 0} → Format X → Format Y → Format (X ⊎ Y)
either f g = record {
  Good = either_good f.Good g.Good;
  spell = either_text f.spell g.spell;
  read = λ bytes. or_else (and_then (f.read bytes) (λ r. Ok (inl r.0, r.1))) (and_then (g.read bytes) (λ r. Ok (inr r.0, r.1)));
}

-- a text that always stands before a value's, or after it
abbrev pub after : {X : Type 0} → List ℕ → Format X → Format X
after text f = record {
  Good = f.Good;
  spell = λ x. text ++ f.spell x;
  read = λ bytes. and_then (read_literal text bytes) (λ r. f.read r.1);
}

abbrev pub followed : {X : Type 0} → Format X → List ℕ → Format X
followed f text = record {
  Good = f.Good;
  spell = λ x. f.spell x ++ text;
  read = λ bytes. and_then (f.read bytes) (λ r. and_then (read_literal text r.1) (λ s. Ok (r.0, s.1)));
}

-- whether values end here: where the bytes do, or before this byte, with which no value's text begins
abbrev pub ends : Option ℕ → List ℕ → Bool
ends None [] = true
ends None (c ∷ cs) = false
ends (Some end) [] = false
ends (Some end) (c ∷ cs) = c == end

abbrev pub EndsAt : Option ℕ → List ℕ → Type 0
EndsAt end rest = ends end rest ≡ true

-- values up to their end, each with its text: there are no more of them than bytes
abbrev pub texts : {X : Type 0} → (X → List ℕ) → List X → List ℕ
texts spell [] = []
texts spell (x ∷ xs) = spell x ++ texts spell xs

unfoldable pub read_lines : {X : Type 0} → Option ℕ → (List ℕ → Result (X × List ℕ) (List ℕ)) → ℕ → List ℕ → Result (List X × List ℕ) (List ℕ)
read_lines end read zero bytes = Err bytes
read_lines end read (suc most) bytes =
    if ends end bytes then Ok ([], bytes)
    else and_then (read bytes) (λ r. and_then (read_lines end read most r.1) (λ s. Ok (r.0 ∷ s.0, s.1)))

abbrev pub lines : {X : Type 0} → Option ℕ → Format X → Format (List X)
lines end f = record {
  Good = All f.Good;
  spell = texts f.spell;
  read = λ bytes. read_lines end f.read (suc (length bytes)) bytes;
}

-- a loop that reads line by line: these values are read, and these bytes are left
pub record Goes {X : Type 0} (end : Option ℕ) (f : Format X) (bytes : List ℕ) (done : List X) (rest : List ℕ) : Type 0 where
  pub most : ℕ
  pub fits : length rest < most
  pub same : and_then {B = List X × List ℕ} (read_lines end f.read most rest) (λ s. Ok (done ++ s.0, s.1)) ≡ (lines end f).read bytes
