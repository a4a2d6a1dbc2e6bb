-- kmatch: whether a map and a file of types are those of the kernel that crashed.
use Rattle.std.specs.Prelude.{ℕ, if◌then◌else◌, List, [], ◌∷◌, codes, Option, Some, None}
use Rattle.kc_outside.specs.declared.store.Slot.TheVariants as slot
use Rattle.kc_outside.specs.Files.{Files as Told}
use Rattle.kc_btf.specs.Btf.{Types, btf as btf_types}
use Rattle.kc_notes.specs.Notes.{text_in}
use Rattle.kc_notes.specs.Values.{lines_of}
use Rattle.kc_syms.specs.Rows.{RowText, addresses}
use Rattle.kc_command.specs.declared.refusal.Refusal.TheVariants.{Notes}
use Rattle.kc_command.specs.declared.refusal.Refusal.TheVariants as refusals
use Rattle.kc_command.specs.declared.kernel.KernelFiles.{KernelFiles}
use Rattle.kc_command.specs.Inputs.{map_in, rows_in, view_headers}
use Rattle.kc_command.specs.Kernels.{noted_in}
use Rattle.kc_command.specs.Made.{◌>>=◌, Made, checked, gives, short_file}
use Rattle.kc_command.specs.declared.ends.status.Status.{Status}
use Rattle.kc_command.specs.declared.ends.status.Status.TheVariants.{Done, Broken}
use Rattle.kc_command.specs.Ends.Asked.{Asked}
use Rattle.kc_command.specs.Ends.Output.{written_files}
use Rattle.kc_command.specs.Ends.Written.{Written}
use Rattle.kc_question.specs.Memory.{bytes_of}
use Rattle.kc_match.specs.declared.beside.TypesBeside.{TypesBeside}
use Rattle.kc_match.specs.Beside.{beside, own_types}
use Rattle.kc_match.specs.Findings.{Finding, findings}
use Rattle.kc_match.specs.Outcomes.{Compared}
use Rattle.kc_match.specs.Text.{agree, match_text}

-- what is shown: a note, what is found of its lines, and the types beside those that the dump holds
pub record Matched : Type 0 where
  pub note : List ℕ
  pub found : List Finding
  pub types : TypesBeside

-- what is written of it: the status says whether the files agree with the note
abbrev pub match_status : List Finding → TypesBeside → Status
match_status found types = if agree found types then Done else Broken

abbrev pub match_written : Matched → Written
match_written m = record { out = match_text m.note m.found m.types; err = []; status = match_status m.found m.types }

-- a kernel's types, the addresses that the rows of its map list, and how far KASLR moved it
abbrev pub kernel_by : Types → List RowText → ℕ → Compared
kernel_by types rows kaslr = record { types = types; listed = λ name. addresses name rows; kaslr = kaslr }

-- what is found of the lines of a note
abbrev pub matched : List ℕ → Compared → TypesBeside → Matched
matched note kernel types = record { note = note; found = findings kernel (lines_of note); types = types }

-- and by the bytes of a map
abbrev pub matched_in : List ℕ → Types → ℕ → TypesBeside → List ℕ → Made Matched
matched_in note types kaslr told map = rows_in map >>= (λ rows. gives (matched note (kernel_by types rows kaslr) told))

-- the faults come in the order dump, types and map
abbrev pub match_made : Option (List ℕ) → Option (List ℕ) → Option (List ℕ) → Made Matched
match_made dump btf map = do
  noted ← noted_in view_headers dump
  note ← checked Notes (text_in noted.parts.notes)
  file ← short_file slot.Btf btf
  types ← checked refusals.Types (btf_types file)
  listed ← map_in map
  matched_in note types noted.told.kaslr (beside file (own_types (bytes_of dump) noted note)) listed

-- what is asked: three files by their names
pub record Files : Type 0 where
  pub dump : List ℕ
  pub btf : List ℕ
  pub map : List ℕ

abbrev pub match_asked : Files → Asked Matched
match_asked f = record {
  named = record { slot = slot.Dump; name = f.dump } ∷ record { slot = slot.Btf; name = f.btf }
      ∷ record { slot = slot.Map; name = f.map } ∷ [];
  made = λ files. match_made (files slot.Dump) (files slot.Btf) (files slot.Map);
}

-- the words after the program's name, where they are three
abbrev pub match_asks : List (List ℕ) → Option (Asked Matched)
match_asks (dump ∷ btf ∷ map ∷ []) = Some (match_asked (record { dump = dump; btf = btf; map = map }))
match_asks _ = None

abbrev pub usage_text : List ℕ
usage_text = codes "usage: kmatch DUMP BTF MAP\n"

-- what is written of words over a store's files
abbrev pub written_of : List (List ℕ) → Told → Option Written
written_of words files = written_files usage_text match_written (match_asks words) files

-- as the code keeps them
abbrev pub files_view : KernelFiles → Files
files_view f = record { dump = f.dump.now; btf = f.btf.now; map = f.map.now }

abbrev pub match_view : KernelFiles → Asked Matched
match_view f = match_asked (files_view f)
