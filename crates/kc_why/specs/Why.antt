-- kwhy: what lies at an address of a dump, which words of the dump hold it, or what explains a report.
use Rattle.std.specs.Prelude.{◌≡◌, ⊤, ℕ, Bool, true, false, ◌&&◌, if◌then◌else◌, List, [], ◌∷◌, codes, Option, Some, None, option_map, Result, Ok, Err}
use Rattle.std.specs.Str.{bytes_eq}
use Rattle.kc_word.specs.Hex.{hex_number}
use Rattle.kc_word.specs.declared.plain.Segment.{Segment}
use Rattle.kc_outside.specs.declared.store.Slot.TheVariants as slot
use Rattle.kc_outside.specs.Files.{Files as Told}
use Rattle.kc_memory.specs.Image.{Image}
use Rattle.kc_notes.specs.declared.fault.NoteFault.{NoteFault}
use Rattle.kc_notes.specs.declared.info.Info.{Info}
use Rattle.kc_notes.specs.Notes.{text_in}
use Rattle.kc_syms.specs.Addresses.{common_of}
use Rattle.kc_syms.specs.Rows.{RowText, addresses}
use Rattle.kc_question.specs.Memory.{bytes_of}
use Rattle.kc_command.specs.Inputs.{rows_in, view_headers}
use Rattle.kc_command.specs.declared.kernel.KernelFiles.{KernelFiles}
use Rattle.kc_command.specs.Kernels.{KernelAt, kernel_in}
use Rattle.kc_command.specs.Made.{◌>>=◌, Made, gives}
use Rattle.kc_command.specs.declared.ends.status.Status.TheVariants.{Done}
use Rattle.kc_command.specs.Ends.Asked.{Asked}
use Rattle.kc_command.specs.Ends.Output.{written_files}
use Rattle.kc_command.specs.Ends.Written.{Written}
use Rattle.kc_found.specs.Violations.{Violation}
use Rattle.kc_cause.specs.Explained.{Explained, explained_text}
use Rattle.kc_cause.specs.Files.{ReportFiles, cause_asked, report_files}
use Rattle.kc_owner.specs.declared.object.keys.FreeKeys.{FreeKeys}
use Rattle.kc_owner.specs.Object.Shapes.{object_shape}
use Rattle.kc_sight.specs.Refs.Holding.{in_segments}
use Rattle.kc_sight.specs.declared.aliases.Rules.{Rules}
use Rattle.kc_sight.specs.Sights.{sight}
use Rattle.kc_refs.specs.Progress.{progress_text}
use Rattle.kc_why.specs.declared.files.Aim.{Aim}
use Rattle.kc_why.specs.declared.files.Asks.{Asks}
use Rattle.kc_why.specs.declared.files.FindAsks.{FindAsks}
use Rattle.kc_why.specs.declared.files.Form.{Form}
use Rattle.kc_why.specs.declared.files.Form.TheVariants as form
use Rattle.kc_why.specs.declared.files.Whole.{Whole}
use Rattle.kc_why.specs.declared.files.Whole.TheVariants as whole
use Rattle.kc_why.specs.Memory.{memory_of}
use Rattle.kc_why.specs.Searching.{keys_of, sought_by}
use Rattle.kc_told.specs.Near.{near_of}
use Rattle.kc_told.specs.Objects.{Shapes, kernel_by, shapes_by, told_of}
use Rattle.kc_told.specs.SeenText.{MapSymbols, seen_text, symbols_by}
use Rattle.kc_why.specs.WordText.{words_text}

-- what is seen: a memory, the kernel's rules for its addresses, where it has what tells of them, an address, and the map's symbols
pub record Looked : Type 0 where
  pub image : Image
  pub rules : Rules
  pub shapes : Shapes
  pub address : ℕ
  pub symbols : MapSymbols

-- what is searched: the bytes of a dump, its segments, what its free pointers are encoded with, a value, and whether it's told how far the
-- search is
pub record Searched : Type 0 where
  pub bytes : List ℕ
  pub segments : List Segment
  pub keys : Option (Result FreeKeys Violation)
  pub value : ℕ
  pub progress : Bool

-- what is shown: what is seen of an address, where a value is written, or what explains a report
pub data Shown : Type 0 where
  Sees : Looked → Shown
  Finds : Searched → Shown
  Tells : Explained → Shown

-- its lines
abbrev pub shown_text : Shown → List ℕ
shown_text (Sees l) = seen_text l.symbols (sight l.image l.rules l.address) (told_of l.image l.shapes l.address) (near_of l.image l.shapes l.address)
shown_text (Finds s) = words_text s.keys (in_segments (sought_by s.value s.keys) s.bytes s.segments)
shown_text (Tells e) = explained_text e

-- what standard error takes on the way: of a search that is told of, how far it is
abbrev pub said_text : Shown → List ℕ
said_text (Sees l) = []
said_text (Finds s) = progress_text s.progress s.segments
said_text (Tells e) = []

abbrev pub why_written : Shown → Written
why_written s = record { out = shown_text s; err = said_text s; status = Done }

-- the kernel's rules, by the notes of its dump and by the rows of its map
abbrev pub rules_by : Info → List RowText → Rules
rules_by told rows = record {
  direct = common_of told.kaslr (addresses (codes "page_offset_base") rows);
  phys_base = told.phys_base;
  five = told.five;
}

-- the text of a dump's VMCOREINFO, without which its notes told nothing
abbrev pub note_text : Result (List ℕ) NoteFault → List ℕ
note_text (Ok text) = text
note_text (Err fault) = []

abbrev pub looked_by : Image → ℕ → KernelAt → List RowText → Looked
looked_by image address kernel rows = record {
  image = image;
  rules = rules_by kernel.told rows;
  shapes = shapes_by kernel.types rows kernel.told (note_text (text_in kernel.notes));
  address = address;
  symbols = symbols_by kernel.told.kaslr rows;
}

-- what is seen of an address of a memory, by the files of its kernel
abbrev pub seen_in : Image → ℕ → KernelAt → Made Shown
seen_in image address kernel = rows_in kernel.map >>= (λ rows. gives (Sees (looked_by image address kernel rows)))

-- where a value is written in a dump
abbrev pub searched_by : List ℕ → Aim → KernelAt → List RowText → Searched
searched_by bytes aim kernel rows = record {
  bytes = bytes;
  segments = kernel.segments;
  keys = keys_of (memory_of kernel bytes) (object_shape (kernel_by kernel.types rows kernel.told));
  value = aim.value;
  progress = aim.progress;
}

abbrev pub found_in : List ℕ → Aim → KernelAt → Made Shown
found_in bytes aim kernel = rows_in kernel.map >>= (λ rows. gives (Finds (searched_by bytes aim kernel rows)))

-- what is asked of a dump: what lies at a virtual address, or which words hold a value
pub data Question : Type 0 where
  Sight : ℕ → Question
  Words : Aim → Question

-- what is shown of a dump's bytes
abbrev pub shown_in : Question → List ℕ → KernelAt → Made Shown
shown_in (Sight address) bytes kernel = seen_in (memory_of kernel bytes) address kernel
shown_in (Words aim) bytes kernel = found_in bytes aim kernel

-- the faults come in the order dump, types and map
abbrev pub why_made : Question → Option (List ℕ) → Option (List ℕ) → Option (List ℕ) → Made Shown
why_made question dump btf map = kernel_in view_headers dump btf map >>= (λ kernel. shown_in question (bytes_of dump) kernel)

-- what is asked of three files by their names
pub record Asking : Type 0 where
  pub dump : List ℕ
  pub btf : List ℕ
  pub map : List ℕ
  pub question : Question

abbrev pub why_asked : Asking → Asked Shown
why_asked q = record {
  named = record { slot = slot.Dump; name = q.dump } ∷ record { slot = slot.Btf; name = q.btf }
      ∷ record { slot = slot.Map; name = q.map } ∷ [];
  made = λ files. why_made q.question (files slot.Dump) (files slot.Btf) (files slot.Map);
}

-- what is asked of words that hold a number in hex
abbrev pub words_of : List ℕ → Bool → Option Question
words_of address progress = option_map (λ n. Words (record { value = n; progress = progress })) (hex_number address)

-- the words after the map: a number in hex, with `refs` before it where the words that hold it are wanted, and then with `progress` after it
-- where it's to be told how far the search is
abbrev pub question_of : List (List ℕ) → Option Question
question_of (address ∷ []) = option_map Sight (hex_number address)
question_of (form ∷ address ∷ []) = if bytes_eq form (codes "refs") then words_of address false else None
question_of (form ∷ address ∷ last ∷ []) = if bytes_eq form (codes "refs") && bytes_eq last (codes "progress") then words_of address true else None
question_of _ = None

abbrev pub question_asked : List ℕ → List ℕ → List ℕ → Option Question → Option (Asked Shown)
question_asked dump btf map question = option_map (λ q. why_asked (record { dump = dump; btf = btf; map = map; question = q })) question

-- what explains a report
abbrev pub told_asked : ReportFiles → Asked Shown
told_asked f = record {
  named = (cause_asked f).named;
  made = λ files. (cause_asked f).made files >>= (λ e. gives (Tells e));
}

abbrev pub report_asked : List ℕ → List ℕ → List ℕ → List ℕ → List ℕ → Asked Shown
report_asked dump btf map plan report =
    told_asked (record { files = record { dump = dump; btf = btf; map = map; plan = plan }; report = report })

-- the words after the program's name: after the map a question, or else the names of a plan, which isn't `refs`, and of a report
abbrev pub words_asked : List ℕ → List ℕ → List ℕ → List (List ℕ) → Option (Asked Shown)
words_asked dump btf map (plan ∷ report ∷ []) =
    if bytes_eq plan (codes "refs") then question_asked dump btf map (question_of (plan ∷ report ∷ [])) else Some (report_asked dump btf map plan report)
words_asked dump btf map words = question_asked dump btf map (question_of words)

abbrev pub why_asks : List (List ℕ) → Option (Asked Shown)
why_asks (dump ∷ btf ∷ map ∷ words) = words_asked dump btf map words
why_asks _ = None

abbrev pub usage_text : List ℕ
usage_text = codes "usage: kwhy DUMP BTF MAP ADDRESS\nusage: kwhy DUMP BTF MAP refs ADDRESS\nusage: kwhy DUMP BTF MAP refs ADDRESS progress\nusage: kwhy DUMP BTF MAP PLAN REPORT\n"

-- what is written of words over a store's files
abbrev pub written_of : List (List ℕ) → Told → Option Written
written_of words files = written_files usage_text why_written (why_asks words) files

-- whether the words, and those after the map, look for those that hold a value
abbrev pub is_search : List (List ℕ) → Bool
is_search [] = false
is_search (form ∷ words) = bytes_eq form (codes "refs")

abbrev pub finds : List (List ℕ) → Bool
finds (dump ∷ btf ∷ map ∷ words) = is_search words
finds _ = false

-- whether the words, and those after the map, ask to be told how far a search is
abbrev pub is_followed : List (List ℕ) → Bool
is_followed (form ∷ address ∷ last ∷ []) = bytes_eq last (codes "progress")
is_followed _ = false

abbrev pub follows : List (List ℕ) → Bool
follows (dump ∷ btf ∷ map ∷ words) = is_followed words
follows _ = false

-- as the code keeps it
abbrev pub asking : KernelFiles → Question → Asking
asking files question = record { dump = files.dump.now; btf = files.btf.now; map = files.map.now; question = question }

abbrev pub sees_asked : Asks → Asked Shown
sees_asked a = why_asked (asking a.files (Sight a.number))

abbrev pub finds_asked : FindAsks → Asked Shown
finds_asked a = why_asked (asking a.files (Words a.aim))

abbrev pub whole_view : Whole → Asked Shown
whole_view (whole.Sees a) = sees_asked a
whole_view (whole.Explains a) = told_asked (report_files a)

abbrev pub form_view : Form → Asked Shown
form_view (form.Finds a) = finds_asked a
form_view (form.Shows w) = whole_view w

-- a search is what such words ask for
abbrev pub IsSearch : Option Form → Bool → Type 0
IsSearch (Some (form.Finds a)) test = test ≡ true
IsSearch _ test = ⊤

-- and such words ask to be told how far it is
abbrev pub IsFollowed : Option Form → Bool → Type 0
IsFollowed (Some (form.Finds a)) test = a.aim.progress ≡ test
IsFollowed _ test = ⊤
