-- What the answer to a question about virtual memory says.
use Rattle.std.specs.Prelude.{◌≡◌, ℕ, Option, Some, None, Result, Ok, Err, ⊤}
use Rattle.kc_memory.specs.declared.space.Stop.{Stop}
use Rattle.kc_memory.specs.declared.space.Stop.TheVariants.{Miss, Fault}
use Rattle.kc_memory.specs.Stopped.{Stopped}

-- short of a fault, an answer is this one
abbrev pub Is : {A : Type 0} → Result A Stopped → Result A Stop → Type 0
Is truth (Ok a) = truth ≡ Ok a
Is truth (Err (Miss s)) = truth ≡ Err s
Is truth (Err Fault) = ⊤

-- the answer is the one that a definition gives of the dump, where the dump is told
abbrev pub AnswersAs : {I A : Type 0} → (I → Result A Stopped) → Option I → Result A Stop → Type 0
AnswersAs truth None r = ⊤
AnswersAs truth (Some image) r = Is (truth image) r

abbrev pub OnFault : {A : Type 0} → Result A Stop → Type 0 → Type 0
OnFault (Ok a) P = ⊤
OnFault (Err (Miss s)) P = ⊤
OnFault (Err Fault) P = P

abbrev pub UnlessFault : {A : Type 0} → Result A Stop → Type 0 → Type 0
UnlessFault (Ok a) P = P
UnlessFault (Err (Miss s)) P = P
UnlessFault (Err Fault) P = ⊤

-- a miss speaks of the address that was asked
abbrev pub StopsAt : {A : Type 0} → Result A Stop → ℕ → Type 0
StopsAt (Ok a) va = ⊤
StopsAt (Err (Miss s)) va = s.va ≡ va
StopsAt (Err Fault) va = ⊤
