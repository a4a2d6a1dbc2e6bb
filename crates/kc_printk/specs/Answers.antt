-- What reading the log answers.
use Rattle.std.specs.Prelude.{◌≡◌, ⊤, ℕ, ◌≤◌, List, ◌++◌, Option, Some, None, Result, Ok, Err, OnOk, IfErr}
use Rattle.kc_outside.specs.Counts.{Rose}
use Rattle.kc_bytes.specs.declared.stop.BytesStop.{BytesStop}
use Rattle.kc_bytes.specs.declared.stop.BytesStop.TheVariants as bytes
use Rattle.kc_memory.specs.declared.space.Stop.{Stop}
use Rattle.kc_memory.specs.declared.space.Stop.TheVariants as stops
use Rattle.kc_printk.specs.declared.record.LogEntry.{LogEntry}
use Rattle.kc_printk.specs.declared.record.LogEntry.TheVariants.{Unknown}
use Rattle.kc_printk.specs.declared.record.LogRule.TheVariants.{Memory}
use Rattle.kc_printk.specs.declared.stop.LogStop.{LogStop}
use Rattle.kc_printk.specs.declared.stop.LogStop.TheVariants.{Miss, Fault, Refused, NoMemory}
use Rattle.kc_printk.specs.Log.{Why, Missed, Bad}
use Rattle.kc_printk.specs.Texts.{unknown_line}

-- what a stop of memory is
abbrev pub of_stop : Stop → LogStop
of_stop (stops.Miss s) = Miss s
of_stop stops.Fault = Fault

-- the code's reason is the definition's; a failure of the dump and want of memory come with any
abbrev pub Stops : {A : Type 0} → Result A Why → LogStop → Type 0
Stops truth (Miss s) = truth ≡ Err (Missed s)
Stops truth Fault = ⊤
Stops truth (Refused fault) = truth ≡ Err (Bad fault)
Stops truth NoMemory = ⊤

-- the code's answer, seen by a view, is the definition's
abbrev pub Reads : {X A : Type 0} → (X → A) → Result A Why → Result X LogStop → Type 0
Reads view truth (Ok x) = truth ≡ Ok (view x)
Reads view truth (Err stop) = Stops truth stop

-- the same of the dump, where it is told
abbrev pub ReadsAs : {I X A : Type 0} → (X → A) → (I → Result A Why) → Option I → Result X LogStop → Type 0
ReadsAs view truth None r = ⊤
ReadsAs view truth (Some image) r = Reads view (truth image) r

-- a definition that always has an answer
abbrev pub IsLook : {X A : Type 0} → (X → A) → A → Result X LogStop → Type 0
IsLook view truth (Ok x) = view x ≡ truth
IsLook view truth (Err stop) = ⊤

abbrev pub LooksAs : {I X A : Type 0} → (X → A) → (I → A) → Option I → Result X LogStop → Type 0
LooksAs view truth None r = ⊤
LooksAs view truth (Some image) r = IsLook view (truth image) r

-- only a failure of the dump and want of memory end such a call
abbrev pub IsWanting : LogStop → Type 0
IsWanting (Miss s) = ⊥
IsWanting Fault = ⊤
IsWanting (Refused fault) = ⊥
IsWanting NoMemory = ⊤

-- a stop makes a record unknown, or is a failure
abbrev pub IsEntry : Stop → Result LogEntry LogStop → Type 0
IsEntry (stops.Miss s) r = r ≡ Ok (Unknown (Memory s.rule) s.va)
IsEntry stops.Fault r = r ≡ Err Fault

-- the line of a record whose text can't be read
abbrev pub IsStopLine : ℕ → BytesStop → List ℕ → List ℕ → Result (Unit {0}) LogStop → Type 0
IsStopLine index (bytes.Miss s) old new r = OnOk r (new ≡ old ++ unknown_line index (Memory s.rule) s.va) × IfErr r (λ stop. stop ≡ NoMemory)
IsStopLine index bytes.Fault old new r = r ≡ Err Fault
IsStopLine index bytes.NoMemory old new r = r ≡ Err NoMemory

-- the count of failures rose where reading failed, and else it is as it was
abbrev pub CountsLogFaults : {A : Type 0} → Result A LogStop → ℕ → ℕ → Type 0
CountsLogFaults (Ok a) before after = after ≡ before
CountsLogFaults (Err (Miss s)) before after = after ≡ before
CountsLogFaults (Err Fault) before after = (before ≤ after) × Rose before after
CountsLogFaults (Err (Refused fault)) before after = after ≡ before
CountsLogFaults (Err NoMemory) before after = after ≡ before
