-- The answer on what reading memory gave.
use Rattle.std.proofs.Common.{◌≡◌, ℕ, ◌≤◌, List, Option, Some, None, option_map, Result, Ok, Err, refl, sym, ap, ◌∙◌, arith}
use Rattle.std.specs.Global.{Vec}
use Rattle.kc_outside.specs.declared.store.Slot.TheVariants.{Dump}
use Rattle.kc_outside.specs.Counts.{Rose}
use Rattle.kc_memory.specs.Image.{Image}
use Rattle.kc_memory.specs.Stopped.{Stopped}
use Rattle.kc_files.specs.declared.unread.Unread.{Unread}
use Rattle.kc_files.specs.declared.unread.Unread.TheVariants.{Miss, Fault, Table, Log, NoMemory}
use Rattle.kc_files.specs.Reading.{CountsUnread, Missed, Reads, ReadsAs, Stops, Why}
use Rattle.kc_command.specs.declared.halt.Halt.{Halt}
use Rattle.kc_command.specs.declared.halt.Halt.TheVariants.{Refused, Store, Memory}
use Rattle.kc_command.specs.Halts.{OnStore, UnlessStore}
use Rattle.kc_command.specs.Slots.{RefusesIn}
use Rattle.kc_command.specs.declared.ends.answer.Answer.{Answer}
use Rattle.kc_command.specs.declared.ends.answer.Answer.TheVariants.{Done}
use Rattle.kc_command.specs.Ends.Answers.{Prints, PrintsOfBytes}
use Rattle.kc_files.specs.Answered.{IsAnswer, IsStopped, ShowsMiss}
use Rattle.kc_files.specs.Made.{files_written, shown_by}

abbrev Read : (Image → Result (List ℕ) Why) → Option Image → Result (Vec ℕ) Unread → Type 0
Read truth o r = ReadsAs (λ (v : Vec ℕ). v.items) truth o r

prints_done : (truth : Result (List ℕ) Why) (bytes : Vec ℕ) (r : Result Answer Halt) → truth ≡ Ok bytes.items → r ≡ Ok (Done bytes) → Prints files_written (shown_by truth) r
prints_done truth bytes r read is = rw (is, read) refl

prints_miss : (truth : Result (List ℕ) Why) (s : Stopped) (r : Result Answer Halt) → truth ≡ Err (Missed s) → ShowsMiss s r → Prints files_written (shown_by truth) r
prints_miss truth s (Ok answer) read shows = rw (read, shows) refl
prints_miss truth s (Err (Refused refusal)) read shows = absurd shows
prints_miss truth s (Err Store) read shows = absurd shows
prints_miss truth s (Err Memory) read shows = tt

prints_stop : (truth : Result (List ℕ) Why) (stop : Unread) (r : Result Answer Halt) → Stops truth stop → IsStopped stop r → Prints files_written (shown_by truth) r
prints_stop truth (Miss s) r read is = prints_miss truth s r read is
prints_stop truth Fault r read is = rw is tt
prints_stop truth (Table fault) r read is = rw (is, read) refl
prints_stop truth (Log fault) r read is = rw (is, read) refl
prints_stop truth NoMemory r read is = rw is tt

prints_it : (truth : Result (List ℕ) Why) (bytes : Result (Vec ℕ) Unread) (r : Result Answer Halt) → Reads (λ (v : Vec ℕ). v.items) truth bytes → IsAnswer bytes r → Prints files_written (shown_by truth) r
prints_it truth (Ok bytes) r read is = prints_done truth bytes r read is
prints_it truth (Err stop) r read is = prints_stop truth stop r read is

-- what is printed is what is shown of the dump
pub prints : (content : Option (List ℕ)) (image : List ℕ → Image) (truth : Image → Result (List ℕ) Why) (bytes : Result (Vec ℕ) Unread) (r : Result Answer Halt)
    → Read truth (option_map image content) bytes → IsAnswer bytes r → PrintsOfBytes files_written (λ b. shown_by (truth (image b))) content r
prints None image truth bytes r read is = tt
prints (Some content) image truth bytes r read is = prints_it (truth (image content)) bytes r read is

-- a refusal is about the dump
refuses_miss : (s : Stopped) (r : Result Answer Halt) → ShowsMiss s r → RefusesIn Dump r
refuses_miss s (Ok answer) shows = tt
refuses_miss s (Err (Refused refusal)) shows = absurd shows
refuses_miss s (Err Store) shows = tt
refuses_miss s (Err Memory) shows = tt

pub refuses : (bytes : Result (Vec ℕ) Unread) (r : Result Answer Halt) → IsAnswer bytes r → RefusesIn Dump r
refuses (Ok bytes) r is = rw is tt
refuses (Err (Miss s)) r is = refuses_miss s r is
refuses (Err Fault) r is = rw is tt
refuses (Err (Table fault)) r is = rw is refl
refuses (Err (Log fault)) r is = rw is refl
refuses (Err NoMemory) r is = rw is tt

-- the count of failures of the store
pub record Counted (r : Result Answer Halt) (before after : ℕ) : Type 0 where
  pub later : before ≤ after
  pub quiet : UnlessStore r (after ≡ before)
  pub cause : OnStore r (Rose before after)

same : (before after : ℕ) → after ≡ before → before ≤ after
same before after is = omega arith

counted_done : (bytes : Vec ℕ) (r : Result Answer Halt) (before after : ℕ) → after ≡ before → r ≡ Ok (Done bytes) → Counted r before after
counted_done bytes r before after quiet is = record { later = same before after quiet; quiet = rw is quiet; cause = rw is tt }

counted_miss : (s : Stopped) (r : Result Answer Halt) (before after : ℕ) → after ≡ before → ShowsMiss s r → Counted r before after
counted_miss s (Ok answer) before after quiet shows = record { later = same before after quiet; quiet = quiet; cause = tt }
counted_miss s (Err (Refused refusal)) before after quiet shows = absurd shows
counted_miss s (Err Store) before after quiet shows = absurd shows
counted_miss s (Err Memory) before after quiet shows = record { later = same before after quiet; quiet = quiet; cause = tt }

pub counted : (bytes : Result (Vec ℕ) Unread) (r : Result Answer Halt) (before after : ℕ) → CountsUnread bytes before after → IsAnswer bytes r → Counted r before after
counted (Ok bytes) r before after quiet is = counted_done bytes r before after quiet is
counted (Err (Miss s)) r before after quiet is = counted_miss s r before after quiet is
counted (Err Fault) r before after rose is = record { later = rose.0; quiet = rw is tt; cause = rw is rose.1 }
counted (Err (Table fault)) r before after quiet is = record { later = same before after quiet; quiet = rw is quiet; cause = rw is tt }
counted (Err (Log fault)) r before after quiet is = record { later = same before after quiet; quiet = rw is quiet; cause = rw is tt }
counted (Err NoMemory) r before after quiet is = record { later = same before after quiet; quiet = rw is quiet; cause = rw is tt }
