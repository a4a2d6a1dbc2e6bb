-- The answer on the rows of a map and on what is seen of an address.
use Rattle.std.proofs.Common.{◌≡◌, ℕ, List, [], Option, Some, None, Result, Ok, Err, codes, option_map, refl, subst, sym, ap, ◌∙◌}
use Rattle.kc_memory.specs.Image.{Image}
use Rattle.kc_notes.specs.Notes.{text_in}
use Rattle.kc_notes.specs.declared.info.Info.{Info}
use Rattle.kc_outside.specs.declared.store.Slot.TheVariants as slot
use Rattle.kc_outside.specs.Files.{Files, named}
use Rattle.kc_syms.specs.declared.fault.SymFault.{SymFault}
use Rattle.kc_syms.specs.Addresses.{common_of}
use Rattle.kc_syms.specs.Rows.{RowText, addresses, rows}
use Rattle.kc_command.specs.declared.halt.Halt.{Halt}
use Rattle.kc_command.specs.declared.refusal.Refusal.TheVariants.{MapLine}
use Rattle.kc_command.specs.declared.kernel.Kernel.{Kernel}
use Rattle.kc_command.specs.Inputs.{rows_in, view_headers}
use Rattle.kc_command.specs.Kernels.{KernelAt, kernel_in, kernel_view}
use Rattle.kc_command.specs.Made.{IsOf, Made, checked}
use Rattle.kc_command.specs.declared.ends.answer.Answer.{Answer}
use Rattle.kc_command.specs.declared.ends.status.Status.TheVariants.{Done}
use Rattle.kc_command.specs.Ends.Answers.{Prints, PrintsOf, PrintsOfBytes, written_by}
use Rattle.kc_command.specs.Ends.Written.{Written}
use Rattle.kc_sight.specs.declared.aliases.Rules.{Rules}
use Rattle.kc_sight.specs.Sights.{Sight, sight}
use Rattle.kc_sight.specs.Views.{sight_view}
use Rattle.kc_told.specs.declared.near.NearWord.{NearWord}
use Rattle.kc_told.specs.declared.told.Sighted.{Sighted}
use Rattle.kc_why.specs.Looking.{LeadsAs, SightsAs, TellsAs}
use Rattle.kc_told.specs.Near.{near_of}
use Rattle.kc_owner.specs.declared.object.shape.ObjectShape.{ObjectShape}
use Rattle.kc_owner.specs.Object.Shapes.{object_shape}
use Rattle.kc_told.specs.declared.told.PageWords.{PageWords}
use Rattle.kc_told.specs.Objects.{Shapes, Told, kernel_by, shapes_by, told_of}
use Rattle.kc_told.specs.SeenText.{MapSymbols, seen_text, symbols_by}
use Rattle.kc_told.specs.Views.{told_view}
use Rattle.kc_why.specs.Why.{Question, Shown, note_text, rules_by, seen_in, shown_in, why_made, why_written}

pub rows_checked : (r : Result (List RowText) ℕ) (listed : List RowText) → checked MapLine r ≡ Some (Ok listed) → r ≡ Ok listed
rows_checked (Ok rows) listed e = cc
rows_checked (Err bad) listed e = absurd (cc)

-- the rules of a map that was read are those of its rows
pub rules_read : (info : Info) (listed : List ℕ → List ℕ) (read : List RowText) (direct : Result ℕ SymFault) → ((name : List ℕ) → listed name ≡ addresses name read)
    → direct ≡ common_of info.kaslr (listed (codes "page_offset_base"))
    → ◌≡◌ {A = Rules} (record { direct = direct; phys_base = info.phys_base; five = info.five }) (rules_by info read)
rules_read info listed read direct same is =
    ap (λ (d : Result ℕ SymFault). record { direct = d; phys_base = info.phys_base; five = info.five }) (is ∙ ap (common_of info.kaslr) (same (codes "page_offset_base")))

-- what is written by these symbols and what is seen is what is made of the map and the dump
pub prints_why : (content : Option (List ℕ)) (memory : List ℕ → Image) (address : ℕ) (kernel : KernelAt) (symbols : MapSymbols) (rules : Rules) (shapes : Shapes) (read : List RowText) (seen : Sighted) (answer : Answer)
    → rows_in kernel.map ≡ Some (Ok read) → symbols ≡ symbols_by kernel.told.kaslr read → rules ≡ rules_by kernel.told read → shapes ≡ shapes_by kernel.types read kernel.told (note_text (text_in kernel.notes))
    → SightsAs {E = Halt} (option_map memory content) rules address (Ok seen) → TellsAs {E = Halt} (option_map memory content) shapes address (Ok seen)
    → LeadsAs {E = Halt} (option_map memory content) shapes address (Ok seen)
    → written_by answer ≡ record { out = seen_text symbols (sight_view seen.sight) (told_view seen.told) seen.near.items; err = []; status = Done }
    → PrintsOfBytes why_written (λ bytes. seen_in (memory bytes) address kernel) content (Ok answer)
prints_why None memory address kernel symbols rules shapes read seen answer is same ruled shaped sees tells leads written = tt
prints_why (Some bytes) memory address kernel symbols rules shapes read seen answer is same ruled shaped sees tells leads written =
    let by : MapSymbols → Sight → Told → List NearWord → Written = λ m s t n. record { out = seen_text m s t n; err = []; status = Done } in
    let own = symbols_by kernel.told.kaslr read in
    let seen_as = sight (memory bytes) (rules_by kernel.told read) address in
    let shapes_are = shapes_by kernel.types read kernel.told (note_text (text_in kernel.notes)) in
    let told_as = told_of (memory bytes) shapes_are address in
    let all : written_by answer ≡ by own seen_as told_as (near_of (memory bytes) shapes_are address) =
    written ∙ ap (λ m. by m (sight_view seen.sight) (told_view seen.told) seen.near.items) same
    ∙ ap (λ s. by own s (told_view seen.told) seen.near.items) (sees ∙ ap (λ (r : Rules). sight (memory bytes) r address) ruled)
    ∙ ap (λ t. by own seen_as t seen.near.items) (tells ∙ ap (λ (s : Shapes). told_of (memory bytes) s address) shaped)
    ∙ ap (by own seen_as told_as) (leads ∙ ap (λ (s : Shapes). near_of (memory bytes) s address) shaped) in
    rw is (ap (λ (w : Written). Some w) (sym all))

-- the words of page descriptors and slab caches, without the mark beside them
objects_alone : (objects : Option ObjectShape) (with_mark : ObjectShape → PageWords) → ((o : ObjectShape) → (with_mark o).objects ≡ o)
    → option_map (λ (w : PageWords). w.objects) (option_map with_mark objects) ≡ objects
objects_alone None with_mark same = refl
objects_alone (Some o) with_mark same = ap (λ (o : ObjectShape). Some o) (same o)

pub objects_read : (kernel : KernelAt) (read : List RowText) (note : List ℕ) (shape : Option ObjectShape) (shapes : Shapes) → shape ≡ option_map (λ (w : PageWords). w.objects) shapes.objects
    → shapes ≡ shapes_by kernel.types read kernel.told note → shape ≡ object_shape (kernel_by kernel.types read kernel.told)
objects_read kernel read note shape shapes is shaped = is ∙ ap (λ (s : Shapes). option_map (λ (w : PageWords). w.objects) s.objects) shaped ∙ objects_alone (object_shape (kernel_by kernel.types read kernel.told)) _ (λ o. refl)

-- what is shown of a kernel is what is made of its files
made_of : (question : Question) (dump btf map : Option (List ℕ)) (kernel : KernelAt) (r : Result Answer Halt) → kernel_in view_headers dump btf map ≡ Some (Ok kernel)
    → PrintsOfBytes why_written (λ bytes. shown_in question bytes kernel) dump r → Prints why_written (why_made question dump btf map) r
made_of question None btf map kernel r is prints = absurd (let none : ⊥ = cc in none)
made_of question (Some bytes) btf map kernel r is prints = rw is prints

pub prints_made : (question : Question) (files : Option Files) (dump btf map : List ℕ) (kernel : Kernel) (content : Option (List ℕ)) (r : Result Answer Halt)
    → IsOf kernel_view (λ told. kernel_in view_headers (told slot.Dump dump) (told slot.Btf btf) (told slot.Map map)) files (Ok kernel) → content ≡ named files slot.Dump dump
    → PrintsOfBytes why_written (λ bytes. shown_in question bytes (kernel_view kernel)) content r
    → PrintsOf why_written (λ told. why_made question (told slot.Dump dump) (told slot.Btf btf) (told slot.Map map)) files r
prints_made question None dump btf map kernel content r is same prints = tt
prints_made question (Some files) dump btf map kernel content r is same prints =
    made_of question (files slot.Dump dump) (files slot.Btf btf) (files slot.Map map) (kernel_view kernel) r is
    (subst (λ (c : Option (List ℕ)). PrintsOfBytes why_written (λ bytes. shown_in question bytes (kernel_view kernel)) c r) same prints)
