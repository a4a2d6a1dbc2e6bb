-- What reading a file out of a memory answers.
use Rattle.std.specs.Prelude.{◌≡◌, ⊤, ℕ, ◌≤◌, Option, Some, None, Result, Ok, Err}
use Rattle.kc_outside.specs.Counts.{Rose}
use Rattle.kc_memory.specs.Stopped.{Stopped}
use Rattle.kc_kallsyms.specs.declared.fault.TableFault.{TableFault}
use Rattle.kc_kallsyms.specs.declared.stop.TableStop.{TableStop}
use Rattle.kc_kallsyms.specs.declared.stop.TableStop.TheVariants as tables
use Rattle.kc_kallsyms.specs.Reading as of_tables
use Rattle.kc_printk.specs.declared.fault.LogFault.{LogFault}
use Rattle.kc_printk.specs.declared.stop.LogStop.{LogStop}
use Rattle.kc_printk.specs.declared.stop.LogStop.TheVariants as logs
use Rattle.kc_printk.specs.Log as of_log
use Rattle.kc_files.specs.declared.unread.Unread.{Unread}
use Rattle.kc_files.specs.declared.unread.Unread.TheVariants.{Miss, Fault, Table, Log, NoMemory}

-- a word of memory can't be read, or the tables of symbols or the log aren't in order
pub data Why : Type 0 where
  Missed : Stopped → Why
  BadTable : TableFault → Why
  BadLog : LogFault → Why

-- a reason of the symbols' tables, and one of the log
abbrev pub by_tables : {A : Type 0} → Result A of_tables.Why → Result A Why
by_tables (Ok a) = Ok a
by_tables (Err (of_tables.Missed s)) = Err (Missed s)
by_tables (Err (of_tables.Bad fault)) = Err (BadTable fault)

abbrev pub by_log : {A : Type 0} → Result A of_log.Why → Result A Why
by_log (Ok a) = Ok a
by_log (Err (of_log.Missed s)) = Err (Missed s)
by_log (Err (of_log.Bad fault)) = Err (BadLog fault)

-- the same of what the code answers
abbrev pub tables_stop : TableStop → Unread
tables_stop (tables.Miss s) = Miss s
tables_stop tables.Fault = Fault
tables_stop (tables.Table fault) = Table fault
tables_stop tables.NoMemory = NoMemory

abbrev pub log_stop : LogStop → Unread
log_stop (logs.Miss s) = Miss s
log_stop logs.Fault = Fault
log_stop (logs.Refused fault) = Log fault
log_stop logs.NoMemory = NoMemory

abbrev pub tables_answer : {A : Type 0} → Result A TableStop → Result A Unread
tables_answer (Ok a) = Ok a
tables_answer (Err stop) = Err (tables_stop stop)

abbrev pub log_answer : {A : Type 0} → Result A LogStop → Result A Unread
log_answer (Ok a) = Ok a
log_answer (Err stop) = Err (log_stop stop)

-- the code's reason is the definition's; a failure of the dump and want of memory come with any
abbrev pub Stops : {A : Type 0} → Result A Why → Unread → Type 0
Stops truth (Miss s) = truth ≡ Err (Missed s)
Stops truth Fault = ⊤
Stops truth (Table fault) = truth ≡ Err (BadTable fault)
Stops truth (Log fault) = truth ≡ Err (BadLog fault)
Stops truth NoMemory = ⊤

-- the code's answer, seen by a view, is the definition's
abbrev pub Reads : {X A : Type 0} → (X → A) → Result A Why → Result X Unread → Type 0
Reads view truth (Ok x) = truth ≡ Ok (view x)
Reads view truth (Err stop) = Stops truth stop

-- the same of the dump, where it is told
abbrev pub ReadsAs : {I X A : Type 0} → (X → A) → (I → Result A Why) → Option I → Result X Unread → Type 0
ReadsAs view truth None r = ⊤
ReadsAs view truth (Some image) r = Reads view (truth image) r

-- the count of failures rose where reading failed, and else it is as it was
abbrev pub CountsUnread : {A : Type 0} → Result A Unread → ℕ → ℕ → Type 0
CountsUnread (Ok a) before after = after ≡ before
CountsUnread (Err (Miss s)) before after = after ≡ before
CountsUnread (Err Fault) before after = (before ≤ after) × Rose before after
CountsUnread (Err (Table fault)) before after = after ≡ before
CountsUnread (Err (Log fault)) before after = after ≡ before
CountsUnread (Err NoMemory) before after = after ≡ before
