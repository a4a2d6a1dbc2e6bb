-- `check`: the structures of a kernel, by a plan.
use Rattle.std.specs.Prelude.{◌≡◌, ◌↔◌, ⊤, ◌⊎◌, ℕ, nat_eq, if◌then◌else◌, List, [], ◌∷◌, map, slice_get, Option, Some, None, unwrap_or, Result, Ok, Err}
use Rattle.std.specs.List.{AllZip}
use Rattle.kc_word.specs.declared.plain.PageCfg.{PageCfg}
use Rattle.kc_word.specs.declared.plain.Segment.{Segment}
use Rattle.kc_outside.specs.declared.store.Slot.{Slot}
use Rattle.kc_outside.specs.declared.store.Slot.TheVariants as slot
use Rattle.kc_memory.specs.Image.{Image}
use Rattle.kc_btf.specs.Btf.{Types}
use Rattle.kc_notes.specs.declared.info.Info.{Info}
use Rattle.kc_found.specs.declared.verdict.RootVerdict.{RootVerdict}
use Rattle.kc_found.specs.declared.verdict.Verdict.{Verdict}
use Rattle.kc_found.specs.declared.verdict.Verdict.TheVariants.{Clean, Broken}
use Rattle.kc_plan.specs.Planned.{AuditAt, PlanAt}
use Rattle.kc_plan.specs.Stands.{PlanStands, RootStands}
use Rattle.kc_plan.specs.Roots.{root_verdicts}
use Rattle.kc_plan.specs.Seen.{roots}
use Rattle.kc_plan.specs.Verdicts.{verdict, verdict_places}
use Rattle.kc_report.specs.declared.report.Report.{Report}
use Rattle.kc_report.specs.Copies.{counted, name_of, report_each, report_of, told_stop}
use Rattle.kc_report.specs.Copies.{names_of as reached_names}
use Rattle.kc_report.specs.IsReport.{report_text}
use Rattle.kc_command.specs.declared.halt.Halt.{Halt}
use Rattle.kc_command.specs.declared.halt.Halt.TheVariants.{Refused, Store, Memory}
use Rattle.kc_command.specs.Inputs.{plan_in, rows_in}
use Rattle.kc_command.specs.Kernels.{kernel_in}
use Rattle.kc_command.specs.Made.{◌>>=◌, Made, gives}
use Rattle.kc_command.specs.Paging.{by_info}
use Rattle.kc_command.specs.Slots.{refused_slot}
use Rattle.kc_command.specs.Ends.Asked.{Asked}
use Rattle.kc_audit.specs.Audits.{names_of, plan_over}
use Rattle.kc_question.specs.Memory.{bytes_of, image_of}
use Rattle.kc_app.specs.declared.plan_files.PlanFiles.{PlanFiles}
use Rattle.kc_command.specs.declared.ends.status.Status.{Status}
use Rattle.kc_command.specs.declared.ends.status.Status.TheVariants as status
use Rattle.kc_app.specs.Shown.{Said, Sound, Unsound, RootSeen, Shown, Seen, Rooted, Listed, said_status, shown_status, shown_text}

-- what `check` asks: four files by their names
pub record Files : Type 0 where
  pub dump : List ℕ
  pub btf : List ℕ
  pub map : List ℕ
  pub plan : List ℕ

-- a plan over the rows of a map with these bytes: the map's fault comes first
abbrev pub planned_in : Types → Info → List ℕ → Option (List ℕ) → Made PlanAt
planned_in types told map plan = do
  rows ← rows_in map
  bytes ← plan_in plan
  plan_over types rows told bytes

-- the memory that is audited, the version of the plan, and its audits
pub record Audited : Type 0 where
  pub image : Image
  pub version : ℕ
  pub audits : List AuditAt

-- those of a plan on a dump with these bytes and segments: what the dump leaves out reads as the plan says
abbrev pub audited_by : List Segment → PageCfg → PlanAt → List ℕ → Audited
audited_by segments paging plan bytes = record { image = image_of bytes segments plan.tail paging; version = plan.version; audits = plan.audits }

-- the faults come in the order dump, types, map and plan
abbrev pub audited : (most : ℕ) → Option (List ℕ) → Option (List ℕ) → Option (List ℕ) → Option (List ℕ) → Made Audited
audited most dump btf map plan = do
  kernel ← kernel_in most dump btf map
  planned ← planned_in kernel.types kernel.told kernel.map plan
  gives (audited_by kernel.segments (by_info kernel.told) planned (bytes_of dump))

-- what is said of a verdict beside the words that show it
abbrev pub verdict_said : List (List ℕ) → Verdict → Said
verdict_said names (Clean counts) = Sound (counted names counts)
verdict_said names (Broken v) =
    Unsound (unwrap_or (slice_get names v.audit) []) v.start v.rule v.at v.expected (told_stop v.rule v.stop)

-- a verdict with its words
abbrev pub verdict_shown : Image → List (List ℕ) → Verdict → Shown
verdict_shown image names found = Seen (verdict_said names found) image (verdict_places found)

-- what is said of the verdict on a root audit, which reaches these audits
abbrev pub root_said : List (List ℕ) → List ℕ → Verdict → Said
root_said names audits (Clean counts) = verdict_said (reached_names names audits) (Clean counts)
root_said names audits (Broken v) = verdict_said names (Broken v)

-- a verdict on a root audit, with its words
abbrev pub root_seen : List (List ℕ) → RootVerdict → RootSeen
root_seen names found = record {
  name = name_of names found.root;
  said = root_said names found.audits found.verdict;
  places = verdict_places found.verdict;
}

-- the verdicts on the root audits, each with its words
abbrev pub roots_shown : Image → List (List ℕ) → List RootVerdict → Shown
roots_shown image names found = Rooted image (map (root_seen names) found)

-- The verdict on the memory, with its words: with version 1 the one on all audits, and with version 2 that on each root
-- audit.
abbrev pub audited_shown : Audited → Shown
audited_shown all =
    if nat_eq all.version 2 then roots_shown all.image (names_of all.audits) (root_verdicts all.image all.audits)
    else verdict_shown all.image (names_of all.audits) (verdict all.image all.audits)

-- what `check` makes of its files
abbrev pub check_made : (most : ℕ) → Option (List ℕ) → Option (List ℕ) → Option (List ℕ) → Option (List ℕ) → Made Shown
check_made most dump btf map plan = do
  all ← audited most dump btf map plan
  gives (audited_shown all)

abbrev pub check_asked : (most : ℕ) → Files → Asked Shown
check_asked most f = record {
  named = record { slot = slot.Dump; name = f.dump } ∷ record { slot = slot.Btf; name = f.btf }
      ∷ record { slot = slot.Map; name = f.map } ∷ record { slot = slot.Plan; name = f.plan } ∷ [];
  made = λ files. check_made most (files slot.Dump) (files slot.Btf) (files slot.Map) (files slot.Plan);
}

abbrev pub check_asks : (most : ℕ) → List (List ℕ) → Option (Asked Shown)
check_asks most (dump ∷ btf ∷ map ∷ plan ∷ []) = Some (check_asked most (record { dump = dump; btf = btf; map = map; plan = plan }))
check_asks most _ = None

-- as the code keeps them
abbrev pub files_view : PlanFiles → Files
files_view a = record { dump = a.kernel.dump.now; btf = a.kernel.btf.now; map = a.kernel.map.now; plan = a.plan.now }

abbrev pub check_view : PlanFiles → Asked Shown
check_view a = check_asked a.most (files_view a)

-- a status is 0 exactly where every structure that a plan reaches stands in the memory, and 1 exactly where one doesn't
abbrev pub TellsStanding : Audited → Status → Type 0
TellsStanding all told =
    ((told ≡ status.Done) ↔ PlanStands all.image all.audits) × ((told ≡ status.Broken) ↔ ¬ PlanStands all.image all.audits)

-- what `check` shows has such a status
abbrev pub ChecksStand : Type 0
ChecksStand = (all : Audited) → TellsStanding all (shown_status (audited_shown all))

-- what is said of a root audit is that its structures are clean exactly where each that it reaches stands in the memory, and
-- that one is broken exactly where one doesn't
abbrev pub TellsRoot : Audited → ℕ × ℕ → RootSeen → Type 0
TellsRoot all root seen =
    ((said_status seen.said ≡ status.Done) ↔ RootStands all.image all.audits root)
    × ((said_status seen.said ≡ status.Broken) ↔ ¬ RootStands all.image all.audits root)

-- of a plan of version 2, and of no other, this is said of each root audit, in the order of the plan
abbrev pub TellsRoots : Audited → Shown → Type 0
TellsRoots all (Seen said image places) = ¬ (all.version ≡ 2)
TellsRoots all (Rooted image seen) = (all.version ≡ 2) × AllZip (TellsRoot all) (roots 0 all.audits) seen
TellsRoots all (Listed strings t name lines) = ⊥

abbrev pub RootsTold : Type 0
RootsTold = (all : Audited) → TellsRoots all (audited_shown all)

-- the report of the verdict on the memory, or of those on the root audits
abbrev pub report_seen : Audited → Report
report_seen all =
    if nat_eq all.version 2 then report_each (names_of all.audits) (root_verdicts all.image all.audits)
    else report_of (names_of all.audits) (verdict all.image all.audits)

-- what is shown has the text of that report
abbrev pub ReportsShown : Type 0
ReportsShown = (all : Audited) → shown_text (audited_shown all) ≡ report_text (report_seen all)

-- a refusal is about the map, and the plan's slot is then as before, or it is about the plan
abbrev pub RefusesLate : {A : Type 0} → Result A Halt → (Slot → Option (List ℕ)) → (Slot → Option (List ℕ)) → Type 0
RefusesLate (Ok a) old new = ⊤
RefusesLate (Err (Refused refusal)) old new =
    ((refused_slot refusal ≡ Some slot.Map) × (new slot.Plan ≡ old slot.Plan)) ⊎ (refused_slot refusal ≡ Some slot.Plan)
RefusesLate (Err Store) old new = ⊤
RefusesLate (Err Memory) old new = ⊤
