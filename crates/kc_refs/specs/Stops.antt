-- What the counts of failures say where words are written.
use Rattle.std.specs.Prelude.{◌≡◌, ℕ, ◌≤◌, List, Option, Result, Ok, Err}
use Rattle.kc_outside.specs.Counts.{Rose}
use Rattle.kc_found.specs.declared.failed.ReadFailed.{ReadFailed}
use Rattle.kc_found.specs.declared.failed.ReadFailed.TheVariants.{Fault, NoMemory}
use Rattle.kc_command.specs.Ends.Last.{FailedLast}
use Rattle.kc_refs.specs.declared.stop.RefsStop.{RefsStop}
use Rattle.kc_refs.specs.declared.stop.RefsStop.TheVariants.{Store, Memory, Sink, Progress}

-- why the dump wasn't read
abbrev pub of_read : ReadFailed → RefsStop
of_read Fault = Store
of_read NoMemory = Memory

-- the store's rose where it failed, and else it is as it was
abbrev pub CountsStore : {A : Type 0} → Result A RefsStop → ℕ → ℕ → Type 0
CountsStore (Ok a) before after = after ≡ before
CountsStore (Err Store) before after = (before ≤ after) × Rose before after
CountsStore (Err Memory) before after = after ≡ before
CountsStore (Err Sink) before after = after ≡ before
CountsStore (Err Progress) before after = after ≡ before

-- and so did that of the sink for words, which then wasn't called again
abbrev pub CountsSink : {A K : Type 0} → (K → Option (List ℕ)) → (K → ℕ) → (K → ℕ) → Result A RefsStop → K → K → Type 0
CountsSink taken faults asked (Ok a) old new = faults new ≡ faults old
CountsSink taken faults asked (Err Store) old new = faults new ≡ faults old
CountsSink taken faults asked (Err Memory) old new = faults new ≡ faults old
CountsSink taken faults asked (Err Sink) old new = (faults old ≤ faults new) × FailedLast taken faults asked old new
CountsSink taken faults asked (Err Progress) old new = faults new ≡ faults old
