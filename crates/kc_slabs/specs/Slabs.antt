-- kslab: every slab of a dump, found by its page and not by a list, and what it breaks.
use Rattle.std.specs.Prelude.{ℕ, if◌then◌else◌, List, [], ◌∷◌, codes, Option, Some, None, Result}
use Rattle.std.specs.Option.{option_copied}
use Rattle.kc_word.specs.declared.plain.Segment.{Segment}
use Rattle.kc_outside.specs.declared.store.Slot.TheVariants as slot
use Rattle.kc_outside.specs.Files.{Files as Told}
use Rattle.kc_btf.specs.Btf.{Types}
use Rattle.kc_notes.specs.declared.info.Info.{Info}
use Rattle.kc_notes.specs.Notes.{text_in}
use Rattle.kc_syms.specs.Rows.{RowText, addresses}
use Rattle.kc_kinds.specs.Kernels.{Kernel}
use Rattle.kc_found.specs.Violations.{Violation}
use Rattle.kc_question.specs.Memory.{bare_image, bytes_of}
use Rattle.kc_slab_page.specs.Frames.Frames.{frames}
use Rattle.kc_command.specs.declared.refusal.Refusal.TheVariants.{NoType, Notes}
use Rattle.kc_command.specs.Inputs.{map_in, rows_in, types_in, view_headers}
use Rattle.kc_command.specs.Kernels.{noted_in}
use Rattle.kc_command.specs.Made.{◌>>=◌, Made, checked, gives, wanted}
use Rattle.kc_command.specs.Paging.{by_info}
use Rattle.kc_command.specs.declared.ends.status.Status.{Status}
use Rattle.kc_command.specs.declared.ends.status.Status.TheVariants.{Done, Broken}
use Rattle.kc_command.specs.Ends.Asked.{Asked}
use Rattle.kc_command.specs.Ends.Output.{written_files}
use Rattle.kc_command.specs.Ends.Written.{Written}
use Rattle.kc_slabs.specs.declared.files.Asks.{Asks}
use Rattle.kc_slabs.specs.declared.looking.SlabShapes.{SlabShapes}
use Rattle.kc_slabs.specs.Looking.{Seen, seen_in}
use Rattle.kc_slabs.specs.OfCache.{slab_shapes}
use Rattle.kc_slabs.specs.Text.{are_sound, told_text}

-- what is written of a dump's slabs: the status says whether they are sound
abbrev pub slabs_status : Result Seen Violation → Status
slabs_status seen = if are_sound seen then Done else Broken

abbrev pub slabs_written : Result Seen Violation → Written
slabs_written seen = record { out = told_text seen; err = []; status = slabs_status seen }

-- the kernel of these types and symbols, and of the rows of a map
abbrev pub kernel_with : Types → (List ℕ → List ℕ) → Info → Kernel
kernel_with types symbols told = record { types = types; symbols = symbols; kaslr = told.kaslr; five = told.five }

abbrev pub kernel_by : Types → List RowText → Info → Kernel
kernel_by types rows told = kernel_with types (λ name. addresses name rows) told

-- where it has what tells of its slabs; types that lack it are refused
abbrev pub shape_made : Kernel → List ℕ → Made SlabShapes
shape_made kernel note = wanted NoType (slab_shapes kernel note)

-- what is seen of the slabs of a cache, or of all, by a dump's bytes, segments and notes, and by the kernel's types and the bytes of a map
abbrev pub seen_by : Option (List ℕ) → List ℕ → List Segment → Info → SlabShapes → Result Seen Violation
seen_by cache bytes segments told shape = seen_in (bare_image bytes segments (by_info told)) shape cache (frames segments)

abbrev pub seen_made : Option (List ℕ) → List ℕ → List Segment → Info → List ℕ → Types → List ℕ → Made (Result Seen Violation)
seen_made cache bytes segments told note types map =
    rows_in map >>= (λ rows. shape_made (kernel_by types rows told) note >>= (λ shape. gives (seen_by cache bytes segments told shape)))

-- the faults come in the order dump, types and map
abbrev pub slabs_made : Option (List ℕ) → Option (List ℕ) → Option (List ℕ) → Option (List ℕ) → Made (Result Seen Violation)
slabs_made cache dump btf map = do
  noted ← noted_in view_headers dump
  note ← checked Notes (text_in noted.parts.notes)
  types ← types_in btf
  listed ← map_in map
  seen_made cache (bytes_of dump) noted.parts.segments noted.told note types listed

-- what is asked: three files by their names, and a cache by its name
pub record Asking : Type 0 where
  pub dump : List ℕ
  pub btf : List ℕ
  pub map : List ℕ
  pub cache : Option (List ℕ)

abbrev pub slabs_asked : Asking → Asked (Result Seen Violation)
slabs_asked q = record {
  named = record { slot = slot.Dump; name = q.dump } ∷ record { slot = slot.Btf; name = q.btf }
      ∷ record { slot = slot.Map; name = q.map } ∷ [];
  made = λ files. slabs_made q.cache (files slot.Dump) (files slot.Btf) (files slot.Map);
}

-- the words after the program's name: three files, and the name of a cache where its slabs alone are looked at
abbrev pub slabs_asks : List (List ℕ) → Option (Asked (Result Seen Violation))
slabs_asks (dump ∷ btf ∷ map ∷ []) = Some (slabs_asked (record { dump = dump; btf = btf; map = map; cache = None }))
slabs_asks (dump ∷ btf ∷ map ∷ cache ∷ []) = Some (slabs_asked (record { dump = dump; btf = btf; map = map; cache = Some cache }))
slabs_asks _ = None

abbrev pub usage_text : List ℕ
usage_text = codes "usage: kslab DUMP BTF MAP\n       kslab DUMP BTF MAP CACHE\n"

-- what is written of words over a store's files
abbrev pub written_of : List (List ℕ) → Told → Option Written
written_of words files = written_files usage_text slabs_written (slabs_asks words) files

-- as the code keeps them
abbrev pub asking : Asks → Asking
asking a = record { dump = a.dump.now; btf = a.btf.now; map = a.map.now; cache = option_copied a.cache }

abbrev pub slabs_view : Asks → Asked (Result Seen Violation)
slabs_view a = slabs_asked (asking a)
