-- Formats of texts: which values have a text, how a value is written, and what reading finds in bytes.
use Rattle.std.specs.Prelude.{◌≡◌, ℕ, ◌<◌, ◌≤◌, List, [], ◌∷◌, ◌++◌, length, take, Result, Ok, Err}

pub record Format (X : Type 0) : Type 1 where
  -- the values that have a text
  pub Good : X → Type 0
  -- the text of a value
  pub spell : X → List ℕ
  -- the value whose text comes first and the bytes after it, or the bytes from the one on where they fit no text
  pub read : List ℕ → Result (X × List ℕ) (List ℕ)

-- what may stand after a text: anything where the text shows its own end, else nothing
abbrev pub Anything : List ℕ → Type 0
Anything rest = Unit {0}

abbrev pub Nothing : List ℕ → Type 0
Nothing rest = rest ≡ []

-- these bytes begin the text of some value
abbrev pub Begins : {X : Type 0} → Format X → List ℕ → Type 0
Begins {X} f front = (x : X) × (tail : List ℕ) × f.Good x × (front ++ tail ≡ f.spell x)

-- with the next byte of these they begin no text, not even one that ended before
abbrev pub NoMore : {X : Type 0} → (List ℕ → Type 0) → Format X → List ℕ → List ℕ → Type 0
NoMore After f front [] = Unit {0}
NoMore {X} After f front (c ∷ cs) = (x : X) (tail more : List ℕ) → f.Good x → After more → front ++ c ∷ tail ≡ f.spell x ++ more → ⊥

-- Reading stopped where `rest` begins: the bytes before it begin some text, and with one more they begin none.
pub record Stops {X : Type 0} (After : List ℕ → Type 0) (f : Format X) (bytes rest : List ℕ) : Type 0 where
  pub front : List ℕ
  pub parts : bytes ≡ front ++ rest
  pub begins : Begins f front
  pub none : NoMore After f front rest

-- The laws of a format. A value is read back from its text, whatever may stand after it. What is read was written
-- so. Where reading stops, the bytes so far begin some text, and one more begins none.
pub record IsRead {X : Type 0} (After : List ℕ → Type 0) (f : Format X) : Type 0 where
  pub again : (x : X) (rest : List ℕ) → f.Good x → After rest → f.read (f.spell x ++ rest) ≡ Ok (x, rest)
  pub takes : (bytes rest : List ℕ) (x : X) → f.read bytes ≡ Ok (x, rest) → f.Good x × After rest × (bytes ≡ f.spell x ++ rest)
  pub stops : (bytes rest : List ℕ) → f.read bytes ≡ Err rest → Stops After f bytes rest

-- a format of texts that show their own end, and one of texts that end where the bytes end
abbrev pub IsFormat : {X : Type 0} → Format X → Type 0
IsFormat f = IsRead Anything f

abbrev pub IsWhole : {X : Type 0} → Format X → Type 0
IsWhole f = IsRead Nothing f

-- n is the length of the longest front of these bytes that begins some text
pub record IsPlace (BeginsText : List ℕ → Type 0) (bytes : List ℕ) (n : ℕ) : Type 0 where
  pub within : n ≤ length bytes
  pub begins : BeginsText (take n bytes)
  pub longest : (m : ℕ) → n < m → m ≤ length bytes → BeginsText (take m bytes) → ⊥
