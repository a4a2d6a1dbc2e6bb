-- How often `layout` calls its store.
use Rattle.std.specs.Prelude.{◌≡◌, ◌⊎◌, ℕ, List, [], ◌∷◌, codes, IsTrue, Option, Some, None, Result}
use Rattle.std.specs.Str.{bytes_eq}
use Rattle.kc_command.specs.declared.halt.Halt.{Halt}
use Rattle.kc_command.specs.Calls.{FailedLast, ReadsOnce, called}
use Rattle.kc_command.specs.declared.ends.answer.Answer.{Answer}

-- the words name `layout`
abbrev pub IsLayout : List (List ℕ) → Type 0
IsLayout [] = ⊥
IsLayout (name ∷ words) = IsTrue (bytes_eq name (codes "layout"))

-- it reads one file whole, and asks nothing where the words aren't its own
abbrev pub LayoutCalls : {S : Type 0} → (S → ℕ) → (S → ℕ) → Option (Result Answer Halt) → S → S → Type 0
LayoutCalls faults asked None old new = asked new ≡ asked old
LayoutCalls faults asked (Some r) old new = ReadsOnce faults asked r old new

-- so it makes no call, or two, or three; or one of the first three failed, and was the last
abbrev pub FewCalls : {S : Type 0} → (S → ℕ) → (S → ℕ) → S → S → Type 0
FewCalls faults asked old new =
    (asked new ≡ asked old) ⊎ (asked new ≡ called 2 (asked old)) ⊎ (asked new ≡ called 3 (asked old)) ⊎ FailedLast 3 faults asked old new
