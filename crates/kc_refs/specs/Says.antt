-- What is said of a search by how it ends.
use Rattle.std.specs.Prelude.{◌≡◌, ⊤, ℕ, ◌≤◌, List, Option, Result, Ok, Err}
use Rattle.kc_outside.specs.Texts.{with_piece}
use Rattle.kc_command.specs.Ends.Ends.{TookPrefix}
use Rattle.kc_command.specs.Ends.Last.{FailedLast}
use Rattle.kc_refs.specs.declared.stop.RefsStop.{RefsStop}
use Rattle.kc_refs.specs.declared.stop.RefsStop.TheVariants.{Store, Memory, Sink, Progress}
use Rattle.kc_refs.specs.Progress.{TookUntil, lines_to}

-- All that is said from one word to another, where it ends well. Where the sink for it failed, it took a first part of that; and else
-- what is said up to the last word that was read.
abbrev pub Says : {A : Type 0} → Option ℕ → ℕ → ℕ → Result A RefsStop → Option (List ℕ) → Option (List ℕ) → Type 0
Says goal from to (Ok a) old new = new ≡ with_piece old (lines_to goal from to)
Says goal from to (Err Store) old new = TookUntil goal from to old new
Says goal from to (Err Memory) old new = TookUntil goal from to old new
Says goal from to (Err Sink) old new = TookUntil goal from to old new
Says goal from to (Err Progress) old new = TookPrefix old new (lines_to goal from to)

-- the count of failures of the sink for it rose where that failed, which then wasn't called again, and else it is as it was
abbrev pub CountsProgress : {A K : Type 0} → (K → Option (List ℕ)) → (K → ℕ) → (K → ℕ) → Result A RefsStop → K → K → Type 0
CountsProgress taken faults asked (Ok a) old new = faults new ≡ faults old
CountsProgress taken faults asked (Err Store) old new = faults new ≡ faults old
CountsProgress taken faults asked (Err Memory) old new = faults new ≡ faults old
CountsProgress taken faults asked (Err Sink) old new = faults new ≡ faults old
CountsProgress taken faults asked (Err Progress) old new = (faults old ≤ faults new) × FailedLast taken faults asked old new

-- the same of one line; nothing is taken of it where something else failed
abbrev pub SaysLine : {A : Type 0} → List ℕ → Result A RefsStop → Option (List ℕ) → Option (List ℕ) → Type 0
SaysLine line (Ok a) old new = new ≡ with_piece old line
SaysLine line (Err Store) old new = new ≡ old
SaysLine line (Err Memory) old new = new ≡ old
SaysLine line (Err Sink) old new = new ≡ old
SaysLine line (Err Progress) old new = TookPrefix old new line

-- nothing failed but the sink for it
abbrev pub IsOwn : {A : Type 0} → Result A RefsStop → Type 0
IsOwn (Ok a) = ⊤
IsOwn (Err Store) = ⊥
IsOwn (Err Memory) = ⊤
IsOwn (Err Sink) = ⊥
IsOwn (Err Progress) = ⊤

-- the sink for it didn't fail
abbrev pub IsOther : {A : Type 0} → Result A RefsStop → Type 0
IsOther (Ok a) = ⊤
IsOther (Err Store) = ⊤
IsOther (Err Memory) = ⊤
IsOther (Err Sink) = ⊤
IsOther (Err Progress) = ⊥
