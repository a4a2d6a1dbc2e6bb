-- kfiles: the map, the types, the log, the modules and the note of a kernel out of its dump.
use Rattle.std.specs.Prelude.{ℕ, List, [], ◌∷◌, codes, Option, Some, None, option_map, Result, Ok, Err}
use Rattle.kc_outside.specs.declared.store.Slot.TheVariants.{Dump}
use Rattle.kc_outside.specs.Files.{Files}
use Rattle.kc_memory.specs.Stopped.{Stopped}
use Rattle.kc_question.specs.Memory.{bare_image, bytes_of}
use Rattle.kc_report.specs.Lines.{broken_text}
use Rattle.kc_command.specs.declared.refusal.Refusal.TheVariants as refusals
use Rattle.kc_word.specs.declared.plain.Segment.{Segment}
use Rattle.kc_elf.specs.Parts.{Parts}
use Rattle.kc_notes.specs.declared.fault.NoteFault.{NoteFault}
use Rattle.kc_notes.specs.declared.fault.NoteFault.TheVariants.{V2}
use Rattle.kc_notes.specs.Notes.{text_in}
use Rattle.kc_memory_note.specs.Notes.{memory_note}
use Rattle.kc_command.specs.Inputs.{dump_parts, view_headers}
use Rattle.kc_command.specs.Kernels.{NotedAt, noted_in}
use Rattle.kc_command.specs.Made.{◌>>=◌, Made, gives, refuses, wanted}
use Rattle.kc_command.specs.Paging.{by_info}
use Rattle.kc_command.specs.declared.ends.status.Status.TheVariants.{Done, Broken as broken_status}
use Rattle.kc_command.specs.Ends.Asked.{Asked}
use Rattle.kc_command.specs.Ends.Output.{written_files}
use Rattle.kc_command.specs.Ends.Written.{Written}
use Rattle.kc_files.specs.declared.files.Asks.{Asks}
use Rattle.kc_files.specs.Reading.{Why, Missed, BadTable, BadLog}
use Rattle.kc_files.specs.Sought.{sought_in}
use Rattle.kc_files.specs.Wished.{wished}
use Rattle.kc_files.specs.Wishes.{Note, RequestAt, WishAt, Wished, request_of, request_of_two, request_view}

-- what is shown: the bytes of a file, or where reading memory stopped
pub data Shown : Type 0 where
  Bytes : List ℕ → Shown
  Broken : Stopped → Shown

abbrev pub files_written : Shown → Written
files_written (Bytes bytes) = record { out = bytes; err = []; status = Done }
files_written (Broken s) = record { out = broken_text s; err = []; status = broken_status }

-- by what reading memory gives
abbrev pub shown_by : Result (List ℕ) Why → Made Shown
shown_by (Ok bytes) = gives (Bytes bytes)
shown_by (Err (Missed s)) = gives (Broken s)
shown_by (Err (BadTable fault)) = refuses (refusals.Tables fault)
shown_by (Err (BadLog fault)) = refuses (refusals.Log fault)

-- what is made of a dump's bytes, its segments and its notes
abbrev pub wish_made : WishAt → List ℕ → NotedAt → Made Shown
wish_made wish bytes noted = do
  sought ← sought_in wish noted.parts.notes
  shown_by (wished sought (bare_image bytes noted.parts.segments (by_info noted.told)) noted.told.kaslr)

abbrev pub memory_made : WishAt → Option (List ℕ) → Made Shown
memory_made wish dump = do
  noted ← noted_in view_headers dump
  wish_made wish (bytes_of dump) noted

-- the text of the note that the memory has, where the file has none
abbrev pub kept_note : List ℕ → List Segment → Made Shown
kept_note bytes segments = wanted (refusals.Notes V2) (memory_note bytes segments) >>= (λ text. gives (Bytes text))

-- by what the file's notes tell: its own VMCOREINFO comes first
abbrev pub note_by : Result (List ℕ) NoteFault → List ℕ → List Segment → Made Shown
note_by (Ok text) bytes segments = gives (Bytes text)
note_by (Err V2) bytes segments = kept_note bytes segments
note_by (Err fault) bytes segments = refuses (refusals.Notes fault)

abbrev pub note_of : List ℕ → Parts → Made Shown
note_of bytes parts = note_by (text_in parts.notes) bytes parts.segments

abbrev pub note_made : Option (List ℕ) → Made Shown
note_made dump = dump_parts view_headers dump >>= note_of (bytes_of dump)

abbrev pub files_made : RequestAt → Option (List ℕ) → Made Shown
files_made Note dump = note_made dump
files_made (Wished wish) dump = memory_made wish dump

abbrev pub files_asked : List ℕ → RequestAt → Asked Shown
files_asked dump request = record {
  named = record { slot = Dump; name = dump } ∷ [];
  made = λ files. files_made request (files Dump);
}

-- the words after the program's name: the name of the dump, and what is asked of it
abbrev pub files_asks : List (List ℕ) → Option (Asked Shown)
files_asks (dump ∷ word ∷ []) = option_map (files_asked dump) (request_of word)
files_asks (dump ∷ word ∷ name ∷ []) = option_map (files_asked dump) (request_of_two word name)
files_asks _ = None

abbrev pub usage_text : List ℕ
usage_text =
    codes "usage: kfiles DUMP map\n       kfiles DUMP types\n       kfiles DUMP log\n       kfiles DUMP modules\n       kfiles DUMP module NAME\n       kfiles DUMP note\n"

-- what is written of words over a store's files
abbrev pub written_of : List (List ℕ) → Files → Option Written
written_of words files = written_files usage_text files_written (files_asks words) files

-- as the code keeps them
abbrev pub files_view : Asks → Asked Shown
files_view a = files_asked a.dump.now (request_view a.request)
