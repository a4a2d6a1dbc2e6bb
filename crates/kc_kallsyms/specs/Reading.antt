-- What reading the tables of a dump answers: a value, or why there is none.
use Rattle.std.specs.Prelude.{◌≡◌, ⊤, ℕ, ◌≤◌, Option, Some, None, Result, Ok, Err}
use Rattle.kc_outside.specs.Counts.{Rose}
use Rattle.kc_bytes.specs.declared.stop.BytesStop.{BytesStop}
use Rattle.kc_bytes.specs.declared.stop.BytesStop.TheVariants as bytes
use Rattle.kc_memory.specs.declared.space.Stop.{Stop}
use Rattle.kc_memory.specs.declared.space.Stop.TheVariants as stops
use Rattle.kc_memory.specs.Stopped.{Stopped}
use Rattle.kc_kallsyms.specs.declared.fault.TableFault.{TableFault}
use Rattle.kc_kallsyms.specs.declared.stop.TableStop.{TableStop}
use Rattle.kc_kallsyms.specs.declared.stop.TableStop.TheVariants.{Miss, Fault, Table, NoMemory}

-- a word of memory can't be read, or a table is no table
pub data Why : Type 0 where
  Missed : Stopped → Why
  Bad : TableFault → Why

-- one step after the other
infixl 10 ◌>>=◌
abbrev pub ◌>>=◌ : {A B E : Type 0} → Result A E → (A → Result B E) → Result B E
(Ok a) >>= next = next a
(Err e) >>= next = Err e

-- what memory answers
abbrev pub missed : {A : Type 0} → Result A Stopped → Result A Why
missed (Ok a) = Ok a
missed (Err s) = Err (Missed s)

-- something that has to be there
abbrev pub wanted : {A : Type 0} → TableFault → Option A → Result A Why
wanted fault (Some a) = Ok a
wanted fault None = Err (Bad fault)

-- a step whose fault is a table's
abbrev pub judged : {A : Type 0} → Result A TableFault → Result A Why
judged (Ok a) = Ok a
judged (Err fault) = Err (Bad fault)

-- the code's reason is the definition's; a failure of the dump and want of memory come with any
abbrev pub Stops : {A : Type 0} → Result A Why → TableStop → Type 0
Stops truth (Miss s) = truth ≡ Err (Missed s)
Stops truth Fault = ⊤
Stops truth (Table fault) = truth ≡ Err (Bad fault)
Stops truth NoMemory = ⊤

-- the code's answer, seen by a view, is the definition's
abbrev pub Reads : {X A : Type 0} → (X → A) → Result A Why → Result X TableStop → Type 0
Reads view truth (Ok x) = truth ≡ Ok (view x)
Reads view truth (Err stop) = Stops truth stop

-- the same of the dump, where it is told
abbrev pub ReadsAs : {I X A : Type 0} → (X → A) → (I → Result A Why) → Option I → Result X TableStop → Type 0
ReadsAs view truth None r = ⊤
ReadsAs view truth (Some image) r = Reads view (truth image) r

-- what a stop of memory is
abbrev pub of_stop : Stop → TableStop
of_stop (stops.Miss s) = Miss s
of_stop stops.Fault = Fault

abbrev pub of_bytes : BytesStop → TableStop
of_bytes (bytes.Miss s) = Miss s
of_bytes bytes.Fault = Fault
of_bytes bytes.NoMemory = NoMemory

-- the count of failures rose where reading failed, and else it is as it was
abbrev pub CountsReadFaults : {A : Type 0} → Result A TableStop → ℕ → ℕ → Type 0
CountsReadFaults (Ok a) before after = after ≡ before
CountsReadFaults (Err (Miss s)) before after = after ≡ before
CountsReadFaults (Err Fault) before after = (before ≤ after) × Rose before after
CountsReadFaults (Err (Table fault)) before after = after ≡ before
CountsReadFaults (Err NoMemory) before after = after ≡ before
