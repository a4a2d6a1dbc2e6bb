-- What the report of a dump is explained by: the verdict on each root audit, the words that show it, and the word that repairs it.
use Rattle.std.specs.Prelude.{◌≡◌, ℕ, nat_eq, if◌then◌else◌, Bool, List, [], ◌∷◌, ◌++◌, codes, bytes_eq, find, is_some, slice_get, Option, Some, None}
use Rattle.std.specs.Option.{option_map_or}
use Rattle.kc_btf.specs.Btf.{Types}
use Rattle.kc_memory.specs.declared.words.Place.{Place}
use Rattle.kc_memory.specs.declared.words.VWord.{VWord}
use Rattle.kc_memory.specs.Image.{Image}
use Rattle.kc_syms.specs.Rows.{RowText}
use Rattle.kc_found.specs.declared.verdict.RootVerdict.{RootVerdict}
use Rattle.kc_found.specs.Violations.{Violation}
use Rattle.kc_plan.specs.Planned.{AuditAt, PlanAt}
use Rattle.kc_plan.specs.Roots.{Root, broken_in, root_verdicts}
use Rattle.kc_plan.specs.Verdicts.{verdict}
use Rattle.kc_run.specs.Each.{root_at}
use Rattle.kc_repair.specs.declared.outcome.Repair.{Repair}
use Rattle.kc_repair.specs.declared.outcome.Repair.TheVariants.{Stands, Nothing}
use Rattle.kc_repair.specs.declared.others.Stand.{Stand}
use Rattle.kc_repair.specs.declared.suspect.suspect.Suspect.{Suspect}
use Rattle.kc_repair.specs.Elements.{elements_with}
use Rattle.kc_repair.specs.Others.{stand_of}
use Rattle.kc_repair.specs.Repairs.{repair_of}
use Rattle.kc_cause.specs.declared.repairs.Mended.{Mended}
use Rattle.kc_cause.specs.Chained.{chain_of}
use Rattle.kc_report.specs.declared.report.Report.{Report}
use Rattle.kc_report.specs.Copies.{report_each, report_of}
use Rattle.kc_report.specs.IsReport.{report_text}
use Rattle.kc_report.specs.Reads.{report_in}
use Rattle.kc_text.specs.Compose.{texts}
use Rattle.kc_command.specs.declared.refusal.Refusal.TheVariants as refusal
use Rattle.kc_command.specs.declared.refusal.ReportFault.TheVariants.{Y1, Y2}
use Rattle.kc_command.specs.declared.refusal.Refusal.TheVariants.{Notes}
use Rattle.kc_command.specs.Inputs.{map_in, plan_in, report_bytes_in, rows_in, types_in, view_headers}
use Rattle.kc_command.specs.Kernels.{KernelAt, NotedAt, noted_in}
use Rattle.kc_command.specs.Made.{◌>>=◌, Made, checked, gives, refuses}
use Rattle.kc_command.specs.Paging.{by_info}
use Rattle.kc_command.specs.declared.ends.status.Status.TheVariants.{Done}
use Rattle.kc_command.specs.Ends.Written.{Written}
use Rattle.kc_report.specs.Lines.{place_line}
use Rattle.kc_told.specs.Leads.{leads_of}
use Rattle.kc_told.specs.Objects.{Shapes, kernel_by, shapes_by, told_of}
use Rattle.kc_sight.specs.Looks.{words}
use Rattle.kc_sight.specs.Meanings.{meaning}
use Rattle.kc_sight.specs.Sights.{page_start}
use Rattle.kc_told.specs.SaysText.{says_lines}
use Rattle.kc_told.specs.SeenText.{MapSymbols, symbols_by, told_lines}
use Rattle.kc_kinds.specs.declared.kind.Kind.{Kind}
use Rattle.kc_kinds.specs.declared.kind.Kind.TheVariants.{Slub}
use Rattle.kc_notes.specs.Notes.{text_in}
use Rattle.kc_slab_page.specs.Frames.Frames.{frames}
use Rattle.kc_slabs.specs.declared.looking.SlabShapes.{SlabShapes}
use Rattle.kc_slabs.specs.OfCache.{cache_line, of_cache, slab_shapes}
use Rattle.kc_question.specs.Memory.{bytes_of, image_of}
use Rattle.kc_audit.specs.Audits.{names_of, plan_over}
use Rattle.kc_cause.specs.Rings.{ring_lines}
use Rattle.kc_cause.specs.Copies.{shown_signs}
use Rattle.kc_cause.specs.Suspected.{Suspected, suspected}
use Rattle.kc_cause.specs.Written.{is_written, slot_line, slot_of}
use Rattle.kc_cause.specs.Lines.{bytes_line, mended_lines, named_lines, number_lines}

-- what is explained: a memory that is audited, with its kernel's types, the version of a plan, the plan's audits, where the kernel has what tells
-- of an address and of slabs, the dump's page frames, and the map's symbols
pub record Explained : Type 0 where
  pub image : Image
  pub types : Types
  pub version : ℕ
  pub audits : List AuditAt
  pub shapes : Shapes
  pub slabs : Option SlabShapes
  pub frames : List ℕ
  pub symbols : MapSymbols

-- the report that `check` prints of it
abbrev pub report_now : Explained → Report
report_now e =
    if nat_eq e.version 2 then report_each (names_of e.audits) (root_verdicts e.image e.audits)
    else report_of (names_of e.audits) (verdict e.image e.audits)

abbrev pub is_broken : RootVerdict → Bool
is_broken r = is_some (broken_in r.verdict)

-- the name of the root audit with a number
abbrev pub root_line : List AuditAt → ℕ → List ℕ
root_line audits root = option_map_or (λ (a : AuditAt). bytes_line (codes "root ") a.name) (slice_get audits root) []

-- a place, with what is told of its address
abbrev pub told_at : Explained → Option ℕ → List ℕ
told_at e None = []
told_at e (Some va) = told_lines e.symbols va (told_of e.image e.shapes va)

-- and with what its word says by itself, by the words of its 4096 bytes
abbrev pub says_at : Explained → ℕ → Option ℕ → List ℕ
says_at e value None = []
says_at e value (Some va) = says_lines e.symbols.image va value (words e.image (page_start va) 512)

abbrev pub place_told : Explained → Place → List ℕ
place_told e p = place_line p ++ says_at e p.value p.va ++ told_at e p.va

-- the list in which a violation lies, and the word of a task that led there, by the audit that found it; and the words that show it
abbrev pub listed_lines : Explained → Violation → List ℕ
listed_lines e v = option_map_or (λ (a : AuditAt). ring_lines e.types e.shapes.areas e.image v a.kind) (slice_get e.audits v.audit) [] ++ texts (place_told e) v.places

-- what kslab finds in the slabs of a cache, where the kernel has what tells of slabs
abbrev pub slabs_by : Image → List ℕ → ℕ → Option SlabShapes → List ℕ
slabs_by image frames cache None = []
slabs_by image frames cache (Some shapes) = cache_line cache (of_cache image shapes cache frames)

-- of the cache that a violation of an audit starts at
abbrev pub slabs_lines : Explained → Violation → Kind → List ℕ
slabs_lines e v (Slub shape) = slabs_by e.image e.frames v.start e.slabs
slabs_lines e v _ = []

abbrev pub slabs_found : Explained → Violation → List ℕ
slabs_found e v = option_map_or (λ (a : AuditAt). slabs_lines e v a.kind) (slice_get e.audits v.audit) []

abbrev pub with_slabs : Explained → Violation → List ℕ
with_slabs e v = listed_lines e v ++ slabs_found e v

-- and all that, with what the words beside it show
abbrev pub with_signs : Explained → Violation → List ℕ
with_signs e v = with_slabs e v ++ shown_signs e.image v

-- the first slot of an xarray's node over which something was written, with what it says
abbrev pub slot_told : Explained → VWord → List ℕ
slot_told e w = slot_line w ++ says_at e w.value (Some w.va)

abbrev pub slot_lines : Explained → Violation → List ℕ
slot_lines e v = option_map_or (slot_told e) (slot_of e.image v) []

-- all that
abbrev pub shown_lines : Explained → Violation → List ℕ
shown_lines e v = with_signs e v ++ slot_lines e v

-- a violation up to its words, and the number that it expects, by the audit that found it
abbrev pub found_named : Types → List AuditAt → Violation → List ℕ
found_named types audits v = option_map_or (λ (a : AuditAt). named_lines types a v) (slice_get audits v.audit) []

abbrev pub found_number : List AuditAt → Violation → List ℕ
found_number audits v = option_map_or (λ (a : AuditAt). number_lines a.kind v) (slice_get audits v.audit) []

-- whether others would do as well as the word that repairs, where one does
abbrev pub stand_told : Image → List AuditAt → Root → Kind → Violation → Repair → Option Stand
stand_told image audits root kind v (Stands s) = Some (stand_of image audits root kind v)
stand_told image audits root kind v (Nothing tried more next) = None

-- the words that are changed: the one that repairs, or those that do together
abbrev pub changed_words : Repair → Option (List Suspect) → Option (List Suspect)
changed_words (Stands s) words = Some (s ∷ [])
changed_words (Nothing tried more next) words = words

-- with these the audit with a number meets so many elements
abbrev pub elements_told : Image → List AuditAt → Root → ℕ → Option (List Suspect) → Option ℕ
elements_told image audits root number None = None
elements_told image audits root number (Some words) = elements_with image audits root words number

-- what is said of an answer on a violation: the words that repair together after it, and the elements of the audit with a number
abbrev pub mended_with : Image → List AuditAt → Root → ℕ → Repair → Option Stand → Option (List Suspect) → Mended
mended_with image audits root number repair stand words = record {
  repair = repair;
  words = words;
  stand = stand;
  elements = elements_told image audits root number (changed_words repair words);
}

abbrev pub mended_by : Image → List AuditAt → Root → ℕ → Repair → Option Stand → Mended
mended_by image audits root number repair stand = mended_with image audits root number repair stand (chain_of image audits root repair)

-- what repairs a violation of a kind of structure that a root audit found: a word, and else words that do together
abbrev pub mended_of : Image → List AuditAt → Root → Kind → Violation → ℕ → Mended
mended_of image audits root kind v number =
    mended_by image audits root number (repair_of image audits root kind v) (stand_told image audits root kind v (repair_of image audits root kind v))

-- what was written over the word of a suspect, where its number shows that, and how far that goes on
abbrev pub written_over : Explained → Suspect → List ℕ
written_over e s = if is_written (meaning s.va s.now) then says_at e s.now (Some s.va) else []

-- what the number leads to that a suspect's word may have held, in the memory as it is
abbrev pub leads_over : Explained → Suspect → List ℕ
leads_over e s = leads_of e.symbols.image e.image e.shapes s.va s.value

abbrev pub leads_to : Explained → Suspect → List ℕ
leads_to e s = written_over e s ++ leads_over e s

-- under the root audit with a number; the audit with another one found it
abbrev pub repairs_as : Explained → ℕ → ℕ → Kind → Violation → List ℕ
repairs_as e root number kind v =
    option_map_or (λ (r : Root). mended_lines (leads_to e) v (mended_of e.image e.audits r kind v number)) (root_at root e.audits) []

-- of one as it is suspected, by the audit that found it
abbrev pub repairs_of : Explained → ℕ → ℕ → Suspected → List ℕ
repairs_of e root number s = repairs_as e root number s.kind s.violation

abbrev pub repairs_found : Explained → ℕ → Violation → List ℕ
repairs_found e root v = option_map_or (λ (a : AuditAt). repairs_of e root v.audit (suspected e.image v a.kind)) (slice_get e.audits v.audit) []

-- the lines of a violation of a root audit: what it is about, the words that show it, the number that it expects, and what repairs it
abbrev pub broken_lines : Explained → ℕ → Violation → List ℕ
broken_lines e root v =
    (root_line e.audits root ++ found_named e.types e.audits v) ++ shown_lines e v ++ found_number e.audits v ++ repairs_found e root v

-- those of a root audit, where its verdict is broken
abbrev pub fault_lines : Explained → ℕ → Option Violation → List ℕ
fault_lines e root None = []
fault_lines e root (Some v) = broken_lines e root v

abbrev pub cause_lines : Explained → RootVerdict → List ℕ
cause_lines e r = fault_lines e r.root (broken_in r.verdict)

-- those of a root audit, where there is one
abbrev pub first_lines : Explained → Option RootVerdict → List ℕ
first_lines e root = option_map_or (cause_lines e) root []

-- with version 2 those of each root audit, and with version 1 those of the first that is broken
abbrev pub causes_text : Explained → List RootVerdict → List ℕ
causes_text e found =
    if nat_eq e.version 2 then texts (cause_lines e) found
    else first_lines e (find is_broken found)

-- where none is broken, it is clean
abbrev pub or_clean : List ℕ → List ℕ
or_clean [] = codes "clean\n"
or_clean (c ∷ cs) = c ∷ cs

abbrev pub explained_text : Explained → List ℕ
explained_text e = or_clean (causes_text e (root_verdicts e.image e.audits))

abbrev pub explained_written : Explained → Written
explained_written e = record { out = explained_text e; err = []; status = Done }

-- bytes that are the text of a report
abbrev pub report_passed : List ℕ → Made (List ℕ)
report_passed bytes = do
  _ ← checked (λ at. refusal.Report (Y1 at)) (report_in bytes)
  gives bytes

-- those of a file, or its first fault: the limit comes first
abbrev pub report_file : Option (List ℕ) → Made (List ℕ)
report_file file = do
  bytes ← report_bytes_in file
  report_passed bytes

-- they are the report of what is audited: each report has one text, and each text is that of one report
abbrev pub compared : Explained → List ℕ → Made Explained
compared e bytes = if bytes_eq bytes (report_text (report_now e)) then gives e else refuses (refusal.Report Y2)

-- a plan, where the kernel has what tells of an address and of slabs, and the map's symbols
pub record PlanOver : Type 0 where
  pub plan : PlanAt
  pub shapes : Shapes
  pub slabs : Option SlabShapes
  pub symbols : MapSymbols

-- a plan over the rows of the map, or its first fault
abbrev pub planned_over : KernelAt → List ℕ → List RowText → List ℕ → Made PlanOver
planned_over k note rows bytes = do
  planned ← plan_over k.types rows k.told bytes
  gives (record {
    plan = planned;
    shapes = shapes_by k.types rows k.told note;
    slabs = slab_shapes (kernel_by k.types rows k.told) note;
    symbols = symbols_by k.told.kaslr rows;
  })

-- the map's faults come first
abbrev pub planned_in : KernelAt → List ℕ → Option (List ℕ) → Made PlanOver
planned_in k note file = do
  rows ← rows_in k.map
  bytes ← plan_in file
  planned_over k note rows bytes

-- what a plan audits of it, where the dump has these bytes
abbrev pub explained_by : KernelAt → PlanOver → List ℕ → Explained
explained_by k p bytes = record {
  image = image_of bytes k.segments p.plan.tail (by_info k.told);
  types = k.types;
  version = p.plan.version;
  audits = p.plan.audits;
  shapes = p.shapes;
  slabs = p.slabs;
  frames = frames k.segments;
  symbols = p.symbols;
}

-- a dump with its notes, the types and the map of its kernel
abbrev pub kernel_with : NotedAt → Types → List ℕ → KernelAt
kernel_with noted types map = record { segments = noted.parts.segments; notes = noted.parts.notes; told = noted.told; types = types; map = map }

-- the faults come in the order dump, types, map and plan
abbrev pub audited : Option (List ℕ) → Option (List ℕ) → Option (List ℕ) → Option (List ℕ) → Made Explained
audited dump btf map plan = do
  noted ← noted_in view_headers dump
  note ← checked Notes (text_in noted.parts.notes)
  types ← types_in btf
  listed ← map_in map
  planned ← planned_in (kernel_with noted types listed) note plan
  gives (explained_by (kernel_with noted types listed) planned (bytes_of dump))

-- and then those of the report
abbrev pub cause_made : Option (List ℕ) → Option (List ℕ) → Option (List ℕ) → Option (List ℕ) → Option (List ℕ) → Made Explained
cause_made dump btf map plan file = do
  e ← audited dump btf map plan
  bytes ← report_file file
  compared e bytes
