-- What explains a report, step by step.
use Rattle.std.proofs.Common.{◌≡◌, ℕ, nat_eq, Bool, true, false, if◌then◌else◌, List, Option, Some, None, IfSome, Result, Ok, Err, inl, inr, refl, sym, ap, subst, ◌∙◌}
use Rattle.std.specs.Prelude.{bytes_eq}
use Rattle.kc_outside.specs.declared.store.Slot.{Slot}
use Rattle.kc_outside.specs.declared.store.Slot.TheVariants as slot
use Rattle.kc_outside.specs.Files.{Files as Told, named}
use Rattle.kc_word.specs.declared.plain.Segment.{Segment}
use Rattle.kc_word.specs.declared.plain.Tail.{Tail}
use Rattle.kc_memory.specs.Image.{Image}
use Rattle.kc_phys.specs.Stored.{stored}
use Rattle.kc_mem.specs.Paged.{with_paging}
use Rattle.kc_found.specs.declared.verdict.RootVerdict.{RootVerdict}
use Rattle.kc_found.specs.declared.verdict.Verdict.{Verdict}
use Rattle.kc_plan.specs.Roots.{root_verdicts}
use Rattle.kc_plan.specs.Verdicts.{verdict}
use Rattle.kc_plan.specs.Views.{plan_seen}
use Rattle.kc_told.specs.SeenText.{map_symbols}
use Rattle.kc_told.specs.Views.{shapes_view}
use Rattle.kc_report.specs.Copies.{report_each, report_of}
use Rattle.kc_report.specs.declared.report.Report.{Report}
use Rattle.kc_report.specs.IsReport.{report_text}
use Rattle.kc_command.specs.declared.halt.Halt.{Halt}
use Rattle.kc_command.specs.declared.halt.Halt.TheVariants.{Refused, Store, Memory}
use Rattle.kc_command.specs.Halts.{NotRefused}
use Rattle.kc_command.specs.declared.refusal.Refusal.TheVariants.{Notes}
use Rattle.kc_command.specs.Inputs.{map_in, report_bytes_in, types_in, view_headers}
use Rattle.kc_command.specs.Made.{Is, IsOf, Made, checked, gives}
use Rattle.kc_command.specs.Paging.{by_info}
use Rattle.kc_command.specs.Slots.{RefusesIn, refused_slot}
use Rattle.kc_command.specs.declared.ends.answer.Answer.{Answer}
use Rattle.kc_command.specs.declared.ends.answer.Answer.TheVariants.{Done, Broken}
use Rattle.kc_command.specs.Ends.Answers.{Prints, PrintsOf, PrintsOfBytes, StayBehind}
use Rattle.kc_command.specs.Ends.Asked.{AllStay, behind}
use Rattle.kc_command.specs.declared.kernel.Noted.{Noted}
use Rattle.kc_command.specs.Kernels.{NotedAt, kernel_files, noted_in, noted_view}
use Rattle.kc_btf.specs.Btf.{Types}
use Rattle.kc_notes.specs.Notes.{text_in}
use Rattle.kc_slab_page.specs.Frames.Frames.{frames}
use Rattle.std.specs.Global.{Vec}
use Rattle.kc_audit.specs.Audits.{names_of}
use Rattle.kc_cause.specs.declared.files.Asks.{Asks}
use Rattle.kc_cause.specs.declared.planned.KernelRead.{KernelRead}
use Rattle.kc_cause.specs.declared.planned.Planned.{Planned}
use Rattle.kc_cause.specs.declared.judged.PlanOf.{PlanOf}
use Rattle.kc_cause.specs.declared.judged.Judged.{Judged}
use Rattle.kc_cause.specs.Explained.{Explained, cause_made, causes_text, compared, explained_by, explained_text, explained_written, kernel_with, or_clean, planned_in, report_file, report_now, report_passed}
use Rattle.kc_cause.specs.Files.{RefusesLate, cause_asked, explained_of, planned_view, report_files}
use Rattle.kc_cause.specs.Judged.{Compares, JudgesAs, Tells, is_reported, over_plan, report_by}

-- the report of the verdicts is that of what is audited
now_by : (each : Bool) (e : Explained) (roots : List RootVerdict) (whole : Option Verdict) → (if each then None else Some (verdict e.image e.audits)) ≡ whole → root_verdicts e.image e.audits ≡ roots
    → (if each then report_each (names_of e.audits) (root_verdicts e.image e.audits) else report_of (names_of e.audits) (verdict e.image e.audits)) ≡ report_by (names_of e.audits) roots whole
now_by true e roots whole is same = rw (← is, same) refl
now_by false e roots whole is same = rw (← is) refl

now_is : (e : Explained) (roots : List RootVerdict) (whole : Option Verdict) → (if nat_eq e.version 2 then None else Some (verdict e.image e.audits)) ≡ whole → root_verdicts e.image e.audits ≡ roots
    → report_now e ≡ report_by (names_of e.audits) roots whole
now_is e roots whole is same = now_by (nat_eq e.version 2) e roots whole is same

-- so what is told of the verdicts on a memory, where the bytes are their report, is what explains it
reported : (o : PlanOf) (image : Image) (judged : Judged) (report : List ℕ) → JudgesAs image o.plan.now judged
    → bytes_eq report (report_text (report_now (over_plan o image))) ≡ is_reported o.plan.now judged report
reported o image judged report is =
    ap (λ (r : Report). bytes_eq report (report_text r)) (now_is (over_plan o image) judged.roots judged.whole is.whole is.roots)

tells_one : (o : PlanOf) (image : Image) (judged : Judged) (report : List ℕ) (r : Result Answer Halt) → JudgesAs image o.plan.now judged
    → is_reported o.plan.now judged report ≡ true → Tells (or_clean (causes_text (over_plan o image) judged.roots)) r → NotRefused r
    → Prints explained_written (compared (over_plan o image) report) r
tells_one o image judged report (Ok (Done text)) is same tells sure =
    let e = over_plan o image in
    let test : bytes_eq report (report_text (report_now e)) ≡ true = reported o image judged report is ∙ same in
    let told : explained_text e ≡ text.items = ap (λ (rs : List RootVerdict). or_clean (causes_text e rs)) is.roots ∙ sym tells in
    rw (test, told) refl
tells_one o image judged report (Ok (Broken text)) is same tells sure = absurd tells
tells_one o image judged report (Err (Refused refusal)) is same tells sure = absurd sure
tells_one o image judged report (Err Store) is same tells sure = tt
tells_one o image judged report (Err Memory) is same tells sure = tt

-- or that they aren't
refuses_one : (o : PlanOf) (image : Image) (judged : Judged) (report : List ℕ) (halt : Halt) → JudgesAs image o.plan.now judged
    → Compares (is_reported o.plan.now judged report) (Err halt) → Prints explained_written (compared (over_plan o image) report) (Err halt)
refuses_one o image judged report (Refused refusal) is compares =
    let e = over_plan o image in
    let test : bytes_eq report (report_text (report_now e)) ≡ false = reported o image judged report is ∙ compares.0 in
    rw (test, compares.1) refl
refuses_one o image judged report Store is compares = absurd compares
refuses_one o image judged report Memory is compares = tt

-- over a memory that is told or not
pub tells_told : (o : PlanOf) (image : Option Image) (judged : Judged) (report : List ℕ) (r : Result Answer Halt) → IfSome image (λ i. JudgesAs i o.plan.now judged)
    → is_reported o.plan.now judged report ≡ true → IfSome image (λ i. Tells (or_clean (causes_text (over_plan o i) judged.roots)) r) → NotRefused r
    → IfSome image (λ i. Prints explained_written (compared (over_plan o i) report) r)
tells_told o None judged report r is same tells sure = tt
tells_told o (Some i) judged report r is same tells sure = tells_one o i judged report r is same tells sure

pub refuses_told : (o : PlanOf) (image : Option Image) (judged : Judged) (report : List ℕ) (halt : Halt) → IfSome image (λ i. JudgesAs i o.plan.now judged)
    → Compares (is_reported o.plan.now judged report) (Err halt) → IfSome image (λ i. Prints explained_written (compared (over_plan o i) report) (Err halt))
refuses_told o None judged report halt is compares = tt
refuses_told o (Some i) judged report halt is compares = refuses_one o i judged report halt is compares

pub judged_told : (o : PlanOf) (image image' : Option Image) (report : List ℕ) (r : Result Answer Halt) → image' ≡ image
    → IfSome image' (λ i. Prints explained_written (compared (over_plan o i) report) r) → IfSome image (λ i. Prints explained_written (compared (over_plan o i) report) r)
judged_told o image image' report r same prints = subst (λ (m : Option Image). IfSome m (λ i. Prints explained_written (compared (over_plan o i) report) r)) same prints

-- and where none was judged
pub stops_told : (o : PlanOf) (image : Option Image) (report : List ℕ) (halt : Halt) → NotRefused {A = Answer} (Err halt)
    → IfSome image (λ i. Prints explained_written (compared (over_plan o i) report) (Err halt))
stops_told o None report halt sure = tt
stops_told o (Some i) report (Refused refusal) sure = absurd sure
stops_told o (Some i) report Store sure = tt
stops_told o (Some i) report Memory sure = tt

-- over the dump
abbrev over_kernel : KernelRead → Planned → List ℕ → Image → Explained
over_kernel kernel planned ns image = record {
  image = image;
  types = kernel.types.now;
  version = planned.plan.version;
  audits = plan_seen planned.plan;
  shapes = shapes_view planned.shapes;
  slabs = planned.slabs;
  frames = ns;
  symbols = map_symbols planned.shapes.map;
}

pub kernel_prints : (content now : Option (List ℕ)) (kernel : KernelRead) (planned : Planned) (segments : List Segment) (tail : Tail) (ns report : List ℕ) (r : Result Answer Halt)
    → now ≡ content → segments ≡ kernel.core.now.segments → tail ≡ planned.plan.tail → ns ≡ frames kernel.core.now.segments
    → IfSome (with_paging (by_info kernel.info) (stored segments tail now)) (λ i. Prints explained_written (compared (over_kernel kernel planned ns i) report) r)
    → PrintsOfBytes explained_written (λ bytes. compared (explained_of kernel planned bytes) report) content r
kernel_prints None now kernel planned segments tail ns report r same within ends framed prints = tt
kernel_prints (Some bytes) now kernel planned segments tail ns report r same within ends framed prints = rw (same, within, ends, framed) at prints

pub halted_prints : (content : Option (List ℕ)) (made : List ℕ → Made Explained) (halt : Halt) → NotRefused {A = Answer} (Err halt) → PrintsOfBytes explained_written made content (Err halt)
halted_prints None made halt sure = tt
halted_prints (Some bytes) made (Refused refusal) sure = absurd sure
halted_prints (Some bytes) made Store sure = tt
halted_prints (Some bytes) made Memory sure = tt

-- of files that are there
made_prints : (dump btf map plan file content : Option (List ℕ)) (noted : NotedAt) (note : List ℕ) (types : Types) (listed : List ℕ) (planned : Planned) (report : List ℕ) (r : Result Answer Halt)
    → noted_in view_headers dump ≡ gives noted → checked Notes (text_in noted.parts.notes) ≡ gives note → types_in btf ≡ gives types → map_in map ≡ gives listed
    → planned_in (kernel_with noted types listed) note plan ≡ gives (planned_view planned) → report_file file ≡ gives report → content ≡ dump
    → PrintsOfBytes explained_written (λ bytes. compared (explained_by (kernel_with noted types listed) (planned_view planned) bytes) report) content r
    → Prints explained_written (cause_made dump btf map plan file) r
made_prints None btf map plan file content noted note types listed planned report r is told typed mapped found read same prints = absurd (let none : ⊥ = cc in none)
made_prints (Some bytes) btf map plan file content noted note types listed planned report r is told typed mapped found read same prints = rw (is, told, typed, mapped, found, read) (rw same at prints)

pub files_print : {X : Type 0} (a : Asks) (files : Option Told) (content : Option (List ℕ)) (noted : Noted) (note : List ℕ) (types : Types) (listed : Vec ℕ) (planned : Planned) (kept : X → List ℕ) (report : X) (r : Result Answer Halt)
    → IsOf noted_view (λ files. noted_in view_headers (files slot.Dump a.files.dump.now)) files (Ok noted) → checked Notes (text_in noted.core.notes) ≡ gives note
    → IsOf {X = Types} (λ x. x) (λ files. types_in (files slot.Btf a.files.btf.now)) files (Ok types)
    → IsOf {X = Vec ℕ} (λ m. m.items) (λ files. map_in (files slot.Map a.files.map.now)) files (Ok listed)
    → IsOf planned_view (λ files. planned_in (kernel_with (noted_view noted) types listed.items) note (files slot.Plan a.plan.now)) files (Ok planned)
    → content ≡ named files slot.Dump a.files.dump.now → IsOf kept (λ files. report_file (files slot.Report a.report.now)) files (Ok report)
    → PrintsOfBytes explained_written (λ bytes. compared (explained_by (kernel_with (noted_view noted) types listed.items) (planned_view planned) bytes) (kept report)) content r
    → PrintsOf explained_written (λ files. cause_made (files slot.Dump a.files.dump.now) (files slot.Btf a.files.btf.now) (files slot.Map a.files.map.now) (files slot.Plan a.plan.now) (files slot.Report a.report.now)) files r
files_print a None content noted note types listed planned kept report r is told typed mapped found same read prints = tt
files_print a (Some files) content noted note types listed planned kept report r is told typed mapped found same read prints =
    made_prints (files slot.Dump a.files.dump.now) (files slot.Btf a.files.btf.now) (files slot.Map a.files.map.now) (files slot.Plan a.plan.now) (files slot.Report a.report.now)
    content (noted_view noted) note types listed.items planned (kept report) r is told typed mapped found read same prints

-- a refusal of the kernel's files leaves those of the plan and of the report unopened too
stays_more : (a : Asks) (one : Option Slot) (old new : Slot → Option (List ℕ)) → new slot.Plan ≡ old slot.Plan → new slot.Report ≡ old slot.Report
    → AllStay (behind one (kernel_files a.files)) old new → AllStay (behind one (cause_asked (report_files a)).named) old new
stays_more a None old new plan report stay = tt
stays_more a (Some slot.Dump) old new plan report stay = (stay.0, (stay.1.0, (plan, (report, tt))))
stays_more a (Some slot.Btf) old new plan report stay = (stay.0, (plan, (report, tt)))
stays_more a (Some slot.Map) old new plan report stay = (plan, (report, tt))
stays_more a (Some slot.Plan) old new plan report stay = (report, tt)
stays_more a (Some slot.Report) old new plan report stay = tt
stays_more a (Some slot.Module) old new plan report stay = tt

pub three_stay : (A B : Type 0) (a : Asks) (halt : Halt) (r : Result B Halt) (old new : Slot → Option (List ℕ)) → r ≡ Err halt → new slot.Plan ≡ old slot.Plan → new slot.Report ≡ old slot.Report
    → StayBehind {A = A} (kernel_files a.files) (Err halt) old new → StayBehind (cause_asked (report_files a)).named r old new
three_stay A B a (Refused refusal) r old new is plan report stay = rw is (stays_more a (refused_slot refusal) old new plan report stay)
three_stay A B a Store r old new is plan report stay = rw is tt
three_stay A B a Memory r old new is plan report stay = rw is tt

-- so does one of the map's rows, and one of the plan that of the report
pub late_stays : (A B : Type 0) (a : Asks) (halt : Halt) (r : Result B Halt) (old before new : Slot → Option (List ℕ)) → r ≡ Err halt → before slot.Plan ≡ old slot.Plan
    → new slot.Report ≡ old slot.Report → RefusesLate {A = A} (Err halt) before new → StayBehind (cause_asked (report_files a)).named r old new
late_stays A B a (Refused refusal) r old before new is kept report (inl late) = rw (is, late.0) (rw kept at late.1, (report, tt))
late_stays A B a (Refused refusal) r old before new is kept report (inr late) = rw (is, late) (report, tt)
late_stays A B a Store r old before new is kept report late = rw is tt
late_stays A B a Memory r old before new is kept report late = rw is tt

-- and that of the report leaves none
pub last_stays : (B : Type 0) (a : Asks) (r : Result B Halt) (old new : Slot → Option (List ℕ)) → RefusesIn slot.Report r → StayBehind (cause_asked (report_files a)).named r old new
last_stays B a (Ok b) old new late = tt
last_stays B a (Err (Refused refusal)) old new late = rw late tt
last_stays B a (Err Store) old new late = tt
last_stays B a (Err Memory) old new late = tt

-- bytes that were read and passed
pub report_told : {X Y : Type 0} (told : Option Told) (name : List ℕ) (seen : X → List ℕ) (kept : Y → List ℕ) (bytes : X) (r : Result Y Halt)
    → IsOf seen (λ files. report_bytes_in (files slot.Report name)) told (Ok bytes) → Is kept (report_passed (seen bytes)) r → IsOf kept (λ files. report_file (files slot.Report name)) told r
report_told None name seen kept bytes r read passed = tt
report_told (Some files) name seen kept bytes r read passed = rw read passed
