-- What the tables of symbols and the log give, as what a file gives.
use Rattle.std.proofs.Common.{◌≡◌, ℕ, List, Option, Some, None, Result, Ok, Err, refl}
use Rattle.std.specs.Global.{Vec}
use Rattle.kc_memory.specs.Image.{Image}
use Rattle.kc_kallsyms.specs.declared.stop.TableStop.{TableStop}
use Rattle.kc_kallsyms.specs.declared.stop.TableStop.TheVariants as tables
use Rattle.kc_kallsyms.specs.Reading as of_tables
use Rattle.kc_printk.specs.declared.stop.LogStop.{LogStop}
use Rattle.kc_printk.specs.declared.stop.LogStop.TheVariants as logs
use Rattle.kc_printk.specs.Answers as of_log
use Rattle.kc_printk.specs.Log as log
use Rattle.kc_files.specs.Reading.{CountsUnread, Reads, ReadsAs, by_log, by_tables, log_answer, tables_answer}

tables_one : (truth : Result (List ℕ) of_tables.Why) (r : Result (Vec ℕ) TableStop) → of_tables.Reads (λ (v : Vec ℕ). v.items) truth r → Reads (λ (v : Vec ℕ). v.items) (by_tables truth) (tables_answer r)
tables_one truth (Ok bytes) is = rw is refl
tables_one truth (Err (tables.Miss s)) is = rw is refl
tables_one truth (Err tables.Fault) is = tt
tables_one truth (Err (tables.Table fault)) is = rw is refl
tables_one truth (Err tables.NoMemory) is = tt

pub tables_read : (image : Option Image) (truth : Image → Result (List ℕ) of_tables.Why) (r : Result (Vec ℕ) TableStop)
    → of_tables.ReadsAs (λ (v : Vec ℕ). v.items) truth image r → ReadsAs (λ (v : Vec ℕ). v.items) (λ i. by_tables (truth i)) image (tables_answer r)
tables_read None truth r is = tt
tables_read (Some image) truth r is = tables_one (truth image) r is

pub tables_count : (r : Result (Vec ℕ) TableStop) (before after : ℕ) → of_tables.CountsReadFaults r before after → CountsUnread (tables_answer r) before after
tables_count (Ok bytes) before after is = is
tables_count (Err (tables.Miss s)) before after is = is
tables_count (Err tables.Fault) before after is = is
tables_count (Err (tables.Table fault)) before after is = is
tables_count (Err tables.NoMemory) before after is = is

log_one : (truth : Result (List ℕ) log.Why) (r : Result (Vec ℕ) LogStop) → of_log.Reads (λ (v : Vec ℕ). v.items) truth r → Reads (λ (v : Vec ℕ). v.items) (by_log truth) (log_answer r)
log_one truth (Ok bytes) is = rw is refl
log_one truth (Err (logs.Miss s)) is = rw is refl
log_one truth (Err logs.Fault) is = tt
log_one truth (Err (logs.Refused fault)) is = rw is refl
log_one truth (Err logs.NoMemory) is = tt

pub log_read : (image : Option Image) (truth : Image → Result (List ℕ) log.Why) (r : Result (Vec ℕ) LogStop)
    → of_log.ReadsAs (λ (v : Vec ℕ). v.items) truth image r → ReadsAs (λ (v : Vec ℕ). v.items) (λ i. by_log (truth i)) image (log_answer r)
log_read None truth r is = tt
log_read (Some image) truth r is = log_one (truth image) r is

pub log_count : (r : Result (Vec ℕ) LogStop) (before after : ℕ) → of_log.CountsLogFaults r before after → CountsUnread (log_answer r) before after
log_count (Ok bytes) before after is = is
log_count (Err (logs.Miss s)) before after is = is
log_count (Err logs.Fault) before after is = is
log_count (Err (logs.Refused fault)) before after is = is
log_count (Err logs.NoMemory) before after is = is
