-- The kernel's log.
use Rattle.std.specs.Prelude.{ℕ, zero, suc, ◌%◌, ◌^◌, List, [], ◌++◌, Result, Ok, Err}
use Rattle.kc_bytes.specs.Bytes.{bytes_at, onward}
use Rattle.kc_memory.specs.Image.{Image}
use Rattle.kc_memory.specs.Stopped.{Stopped}
use Rattle.kc_printk.specs.declared.fault.LogFault.{LogFault}
use Rattle.kc_printk.specs.declared.layout.LogLayout.{LogLayout}
use Rattle.kc_printk.specs.declared.record.LogEntry.{LogEntry}
use Rattle.kc_printk.specs.declared.record.LogEntry.TheVariants.{Nothing, Record, Unknown}
use Rattle.kc_printk.specs.declared.record.Log.{Log}
use Rattle.kc_printk.specs.declared.record.LogRule.TheVariants.{Memory}
use Rattle.kc_printk.specs.declared.ring.Ring.{Ring}
use Rattle.kc_printk.specs.Note.{layout_of}
use Rattle.kc_printk.specs.Records.{entry_at, index_of, room_after}
use Rattle.kc_printk.specs.Rings.{ring_of, ring_words}
use Rattle.kc_printk.specs.Steps.{◌>>=◌}
use Rattle.kc_printk.specs.Texts.{record_line, unknown_line}

-- the line of a record, or of one whose text can't be read
abbrev pub seen_line : ℕ → ℕ → Result (List ℕ) Stopped → List ℕ
seen_line index time (Ok bytes) = record_line time bytes
seen_line index time (Err s) = unknown_line index (Memory s.rule) s.va

-- the lines of what stands at an id
abbrev pub line_at : Image → ℕ → LogEntry → List ℕ
line_at image index Nothing = []
line_at image index (Record time at length) = seen_line index time (bytes_at image length at)
line_at image index (Unknown rule at) = unknown_line index rule at

-- the id after an id (DESC_ID)
abbrev pub next_id : ℕ → ℕ
next_id id = onward id 1 % 2 ^ 62

-- the lines of so many ids from one on, where so many bytes of texts are left
unfoldable pub lines : Image → Log → ℕ → ℕ → ℕ → List ℕ
lines image log zero id room = []
lines image log (suc count) id room =
    line_at image (index_of log id) (entry_at image log id room) ++ lines image log count (next_id id) (room_after room (entry_at image log id room))

-- why there is no log: a word of the ring can't be read, or the note or the ring isn't in order
pub data Why : Type 0 where
  Missed : Stopped → Why
  Bad : LogFault → Why

abbrev pub missed : {A : Type 0} → Result A Stopped → Result A Why
missed (Ok a) = Ok a
missed (Err s) = Err (Missed s)

abbrev pub judged : {A : Type 0} → Result A LogFault → Result A Why
judged (Ok a) = Ok a
judged (Err fault) = Err (Bad fault)

-- the lines from the first id to the last one; their texts have no more bytes than the ring
abbrev pub lines_of : Image → LogLayout → Ring → List ℕ
lines_of image layout ring = lines image (record { ring = ring; desc = layout.desc; info = layout.info }) ring.ids ring.first ring.size

unfoldable pub log_of : Image → List ℕ → Result (List ℕ) Why
log_of image note = do
  layout ← judged (layout_of note)
  words ← missed (ring_words image layout.ring)
  ring ← judged (ring_of words)
  Ok (lines_of image layout ring)
