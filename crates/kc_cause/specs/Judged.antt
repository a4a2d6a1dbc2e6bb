-- What the code has of a plan on a dump, and what becomes of it.
use Rattle.std.specs.Prelude.{◌≡◌, ⊤, ℕ, nat_eq, if◌then◌else◌, Bool, true, false, List, length, bytes_eq, IfSome, Option, Some, None, Result, Ok, Err}
use Rattle.kc_memory.specs.Image.{Image}
use Rattle.kc_found.specs.declared.verdict.RootVerdict.{RootVerdict}
use Rattle.kc_found.specs.declared.verdict.Verdict.{Verdict}
use Rattle.kc_plan.specs.declared.plan.Plan.{Plan}
use Rattle.kc_plan.specs.Inside.{AreInside}
use Rattle.kc_plan.specs.Planned.{AuditAt}
use Rattle.kc_plan.specs.Roots.{FitEach, root_verdicts}
use Rattle.kc_plan.specs.Verdicts.{FitsPlan, verdict}
use Rattle.kc_plan.specs.Views.{plan_seen}
use Rattle.kc_report.specs.declared.report.Report.{Report}
use Rattle.kc_report.specs.Copies.{IsOfPlan, report_each, report_of}
use Rattle.kc_report.specs.Copies.{AreOfPlan as AreOfNames}
use Rattle.kc_report.specs.IsReport.{report_text}
use Rattle.kc_command.specs.declared.halt.Halt.{Halt}
use Rattle.kc_command.specs.declared.halt.Halt.TheVariants.{Refused, Store, Memory}
use Rattle.kc_command.specs.declared.refusal.Refusal.TheVariants as refusals
use Rattle.kc_command.specs.declared.refusal.ReportFault.TheVariants.{Y2}
use Rattle.kc_command.specs.Paging.{IsTable}
use Rattle.kc_command.specs.declared.ends.answer.Answer.{Answer}
use Rattle.kc_command.specs.declared.ends.answer.Answer.TheVariants.{Done, Broken}
use Rattle.kc_view.specs.TaskLists.{IsInside}
use Rattle.kc_slab_page.specs.Frames.Frames.{frames_of}
use Rattle.kc_told.specs.SeenText.{map_symbols}
use Rattle.kc_told.specs.Views.{shapes_view}
use Rattle.kc_cause.specs.declared.judged.Judged.{Judged}
use Rattle.kc_cause.specs.declared.judged.PlanOf.{PlanOf}
use Rattle.kc_audit.specs.Audits.{names_of}
use Rattle.kc_cause.specs.Explained.{Explained}

-- with version 2 there is no verdict on all audits
abbrev pub whole_verdict : Image → Plan → Option Verdict
whole_verdict image plan = if nat_eq plan.version 2 then None else Some (verdict image (plan_seen plan))

-- they are the verdicts of a plan
pub record JudgesAs (image : Image) (plan : Plan) (judged : Judged) : Type 0 where
  pub whole : whole_verdict image plan ≡ judged.whole
  pub roots : root_verdicts image (plan_seen plan) ≡ judged.roots

-- they fit so many audits
pub record FitsJudged (count : ℕ) (audits : List AuditAt) (judged : Judged) : Type 0 where
  pub whole : IfSome judged.whole (FitsPlan count)
  pub roots : FitEach count audits judged.roots

-- they are of a plan with these names
pub record AreOfPlan (names : List (List ℕ)) (judged : Judged) : Type 0 where
  pub whole : IfSome judged.whole (IsOfPlan names)
  pub roots : AreOfNames names judged.roots

-- the report of them
abbrev pub report_by : List (List ℕ) → List RootVerdict → Option Verdict → Report
report_by names roots None = report_each names roots
report_by names roots (Some v) = report_of names v

abbrev pub report_of_judged : List (List ℕ) → Judged → Report
report_of_judged names judged = report_by names judged.roots judged.whole

-- these bytes are the text of that report
abbrev pub is_reported : Plan → Judged → List ℕ → Bool
is_reported plan judged bytes = bytes_eq bytes (report_text (report_of_judged (names_of (plan_seen plan)) judged))

-- that is found out
abbrev pub Compares : Bool → Result (Unit {0}) Halt → Type 0
Compares same (Ok done) = same ≡ true
Compares same (Err (Refused refusal)) = (same ≡ false) × (refusal ≡ refusals.Report Y2)
Compares same (Err Store) = ⊥
Compares same (Err Memory) = ⊤

-- a plan's audits over a memory
abbrev pub over_plan : PlanOf → Image → Explained
over_plan o image = record {
  image = image;
  types = o.types.now;
  version = o.plan.now.version;
  audits = plan_seen o.plan.now;
  shapes = shapes_view o.shapes;
  slabs = o.slabs;
  frames = frames_of o.runs.now;
  symbols = map_symbols o.shapes.map;
}

-- the type of a task is one of the types
abbrev pub TasksAreInside : PlanOf → Type 0
TasksAreInside o = IfSome o.shapes.words.areas.stacks (λ shape. IsInside shape.tasks o.types.now)

-- the page tables stand where a table may, and the audits and the type of a task are of these types
pub record FitsTogether (o : PlanOf) : Type 0 where
  pub table : IsTable o.paging.table
  pub types : AreInside (length o.types.now.records) o.plan.now.audits
  pub tasks : TasksAreInside o

-- an answer is this text
abbrev pub Tells : List ℕ → Result Answer Halt → Type 0
Tells text (Ok (Done told)) = told.items ≡ text
Tells text (Ok (Broken told)) = ⊥
Tells text (Err halt) = ⊤
