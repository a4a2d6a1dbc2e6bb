-- What the answer of a walk says.
use Rattle.std.specs.Prelude.{◌≡◌, ℕ, ◌+◌, ◌*◌, ◌≤◌, List, IfSome, Option, Some, None, Result, Ok, Err, ⊤}
use Rattle.kc_outside.specs.Counts.{Rose}
use Rattle.kc_memory.specs.declared.space.Stop.{Stop}
use Rattle.kc_memory.specs.declared.space.Stop.TheVariants as stops
use Rattle.kc_memory.specs.declared.words.Place.{Place}
use Rattle.kc_memory.specs.declared.words.VWord.{VWord}
use Rattle.kc_memory.specs.Held.{word_count}
use Rattle.kc_memory.specs.Image.{Image}
use Rattle.kc_found.specs.declared.asked.Asked.{Asked}
use Rattle.kc_found.specs.declared.found.WalkStop.{WalkStop}
use Rattle.kc_found.specs.declared.found.WalkStop.TheVariants as ends
use Rattle.kc_found.specs.Trials.{Trial, passed}
use Rattle.kc_found.specs.Violations.{Violation, missed, missed_behind}

-- a stop is by this violation, unless it is out of memory
abbrev pub IsBroken : WalkStop → Violation → Type 0
IsBroken (ends.Broken f) v = f ≡ v
IsBroken ends.Fault v = ⊥
IsBroken ends.NoMemory v = ⊤

-- a walk ends at a word that can't be read: by the rule that stopped the reading, or by its failure
abbrev pub IsStopped : WalkStop → Asked → Option VWord → Stop → Type 0
IsStopped end asked led (stops.Miss s) = IsBroken end (missed asked led s)
IsStopped end asked led stops.Fault = end ≡ ends.Fault

-- the same after the words that these places show
abbrev pub IsStoppedBehind : WalkStop → Asked → List Place → Stop → Type 0
IsStoppedBehind end asked led (stops.Miss s) = IsBroken end (missed_behind asked led s)
IsStoppedBehind end asked led stops.Fault = end ≡ ends.Fault

-- short of a failure and of being out of memory, an answer is this one
abbrev pub IsWalk : {A B : Type 0} → (A → B) → Result B Violation → Result A WalkStop → Type 0
IsWalk view truth (Ok x) = truth ≡ Ok (view x)
IsWalk view truth (Err (ends.Broken f)) = truth ≡ Err f
IsWalk view truth (Err ends.Fault) = ⊤
IsWalk view truth (Err ends.NoMemory) = ⊤

-- the answer, seen by a view, is the one that a definition gives of the dump, where the dump is told
abbrev pub WalksAs : {A B I : Type 0} → (A → B) → (I → Result B Violation) → Option I → Result A WalkStop → Type 0
WalksAs view truth None r = ⊤
WalksAs view truth (Some image) r = IsWalk view (truth image) r

abbrev pub OnWalkFault : {A : Type 0} → Result A WalkStop → Type 0 → Type 0
OnWalkFault (Ok x) P = ⊤
OnWalkFault (Err (ends.Broken f)) P = ⊤
OnWalkFault (Err ends.Fault) P = P
OnWalkFault (Err ends.NoMemory) P = ⊤

-- the count of failures rose where reading failed, and else it is as it was
abbrev pub CountsWalkFaults : {A : Type 0} → Result A WalkStop → ℕ → ℕ → Type 0
CountsWalkFaults (Ok x) before after = after ≡ before
CountsWalkFaults (Err (ends.Broken f)) before after = after ≡ before
CountsWalkFaults (Err ends.Fault) before after = (before ≤ after) × Rose before after
CountsWalkFaults (Err ends.NoMemory) before after = after ≡ before

abbrev pub OnBroken : {A : Type 0} → Result A WalkStop → Type 0 → Type 0
OnBroken (Ok x) P = ⊤
OnBroken (Err (ends.Broken f)) P = P
OnBroken (Err ends.Fault) P = ⊤
OnBroken (Err ends.NoMemory) P = ⊤

-- a violation names this audit and this start
abbrev pub IsNamed : {A : Type 0} → Result A WalkStop → ℕ → ℕ → Type 0
IsNamed (Ok x) audit start = ⊤
IsNamed (Err (ends.Broken f)) audit start = (f.audit ≡ audit) × (f.start ≡ start)
IsNamed (Err ends.Fault) audit start = ⊤
IsNamed (Err ends.NoMemory) audit start = ⊤

-- the words taken before and after a step of a walk are those of these trials
abbrev pub TakesAs : {A I : Type 0} → (I → List (Trial ℕ)) → List ℕ → List ℕ → Option I → Result A WalkStop → Type 0
TakesAs trials before after image r = WalksAs (λ _. after) (λ i. passed before (trials i)) image r

-- A walk's steps, where a word takes so many at most: in a memory of W words no more than 2 * W + 128 words may take.
abbrev pub WithinSteps : Option Image → ℕ → ℕ → ℕ → Type 0
WithinSteps image most before after = IfSome image (λ i. after ≤ before + most * (2 * word_count i.physical + 128))
