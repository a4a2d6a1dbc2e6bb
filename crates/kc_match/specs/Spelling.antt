-- How facts are spelled on their lines.
use Rattle.std.specs.Prelude.{◌≡◌, ◌≢◌, ◌↔◌, ℕ, List, ◌∷◌, ◌++◌, codes, All, Some}
use Rattle.kc_word.specs.Decimal.{decimal_number}
use Rattle.kc_word.specs.Hex.{hex_number}
use Rattle.kc_match.specs.Facts.{Fact, Symbol, Size, Offset, fact_in}

-- a line is a head, some text without `)`, and `)=` before a value
pub record IsEntry (head inner value line : List ℕ) : Type 0 where
  pub text : line ≡ head ++ inner ++ 41 ∷ 61 ∷ value
  pub inside : All (λ c. c ≢ 41) inner

-- `SYMBOL(name)=` and a hex number, `SIZE(name)=` or `OFFSET(name.member)=` and a decimal one; no dot is in a type's name
abbrev pub Spells : List ℕ → Fact → Type 0
Spells line (Symbol name address) =
    (value : List ℕ) × IsEntry (codes "SYMBOL(") name value line × (hex_number value ≡ Some address)
Spells line (Size name size) =
    (value : List ℕ) × IsEntry (codes "SIZE(") name value line × (decimal_number value ≡ Some size)
Spells line (Offset name member byte) =
    (value : List ℕ) × IsEntry (codes "OFFSET(") (name ++ 46 ∷ member) value line × All (λ c. c ≢ 46) name
    × (decimal_number value ≡ Some byte)

-- a line states a fact exactly where it spells it
abbrev pub FactsAreSpelled : Type 0
FactsAreSpelled = (line : List ℕ) (fact : Fact) → (fact_in line ≡ Some fact) ↔ Spells line fact
