-- What reading bytes of a dump answers.
use Rattle.std.specs.Prelude.{◌≡◌, ⊤, ℕ, ◌≤◌, Option, Some, None, Result, Ok, Err}
use Rattle.kc_outside.specs.Counts.{Rose}
use Rattle.kc_memory.specs.declared.space.Stop.{Stop}
use Rattle.kc_memory.specs.declared.space.Stop.TheVariants as stops
use Rattle.kc_memory.specs.Stopped.{Stopped}
use Rattle.kc_bytes.specs.declared.stop.BytesStop.{BytesStop}
use Rattle.kc_bytes.specs.declared.stop.BytesStop.TheVariants.{Miss, Fault, NoMemory}

-- short of a failure and of being out of memory, an answer, seen by a view, is this one
abbrev pub Reads : {X A : Type 0} → (X → A) → Result A Stopped → Result X BytesStop → Type 0
Reads view truth (Ok x) = truth ≡ Ok (view x)
Reads view truth (Err (Miss s)) = truth ≡ Err s
Reads view truth (Err Fault) = ⊤
Reads view truth (Err NoMemory) = ⊤

-- the answer is the one that a definition gives of the dump, where the dump is told
abbrev pub ReadsAs : {I X A : Type 0} → (X → A) → (I → Result A Stopped) → Option I → Result X BytesStop → Type 0
ReadsAs view truth None r = ⊤
ReadsAs view truth (Some image) r = Reads view (truth image) r

-- what a stop of memory is
abbrev pub of_stop : Stop → BytesStop
of_stop (stops.Miss s) = Miss s
of_stop stops.Fault = Fault

-- the count of failures rose where reading failed, and else it is as it was
abbrev pub CountsReadFaults : {A : Type 0} → Result A BytesStop → ℕ → ℕ → Type 0
CountsReadFaults (Ok a) before after = after ≡ before
CountsReadFaults (Err (Miss s)) before after = after ≡ before
CountsReadFaults (Err Fault) before after = (before ≤ after) × Rose before after
CountsReadFaults (Err NoMemory) before after = after ≡ before
