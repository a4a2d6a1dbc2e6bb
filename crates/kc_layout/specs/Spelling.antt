-- How the steps of a path are written.
use Rattle.std.specs.Prelude.{◌≡◌, ◌≤◌, ◌↔◌, IsTrue, ℕ, Bool, true, false, List, [], ◌∷◌, ◌++◌, length, All, Some, pos}
use Rattle.kc_word.specs.Decimal.{decimal_number}
use Rattle.kc_layout.specs.Path.{Step, begins_name, is_digit, is_word, path_steps}
use Rattle.kc_layout.specs.Path.Step.{Member, Element, Pointee}

-- a name: a letter or `_`, and then any of these and digits
pub record IsName (name : List ℕ) : Type 0 where
  pub begins : IsTrue (begins_name name)
  pub words : All (λ c. IsTrue (is_word c)) name

-- 1 to 10 digits that write an index, leading zeros among them
pub record IsIndex (index : ℕ) (digits : List ℕ) : Type 0 where
  pub few : length digits ≤ 10
  pub decimal : All (λ c. IsTrue (is_digit c)) digits
  pub number : decimal_number digits ≡ Some (pos index)

-- a text writes a step. The first of a path is a member's name alone, and a further member's has a `.` before
-- it; an index stands in brackets, and `->` before the name of what a pointer points to.
abbrev pub Writes : Bool → Step → List ℕ → Type 0
Writes true (Member name) text = IsName name × (text ≡ name)
Writes false (Member name) text = IsName name × (text ≡ 46 ∷ name)
Writes false (Element index) text = (digits : List ℕ) × IsIndex index digits × (text ≡ 91 ∷ digits ++ 93 ∷ [])
Writes false (Pointee name) text = IsName name × (text ≡ 45 ∷ 62 ∷ name)
Writes true _ text = ⊥

-- a text spells steps: what writes them, one after another, is the text
unfoldable pub Spells : Bool → List Step → List ℕ → Type 0
Spells first [] text = text ≡ []
Spells first (step ∷ steps) text = (here : List ℕ) × (rest : List ℕ) × Writes first step here × Spells false steps rest × (text ≡ here ++ rest)

-- a text is a path of these steps exactly where it has at most 256 bytes and spells them
abbrev pub PathsAreSpelled : Type 0
PathsAreSpelled = (text : List ℕ) (steps : List Step) → (path_steps text ≡ Some steps) ↔ ((length text ≤ 256) × Spells true steps text)
