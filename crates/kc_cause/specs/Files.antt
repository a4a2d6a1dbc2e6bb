-- The files of a report: those of its audit, and its own.
use Rattle.std.specs.Prelude.{◌≡◌, ◌⊎◌, ⊤, ℕ, List, [], ◌∷◌, Option, Some, None, Result, Ok, Err}
use Rattle.kc_outside.specs.declared.store.Slot.{Slot}
use Rattle.kc_outside.specs.declared.store.Slot.TheVariants as slot
use Rattle.kc_plan.specs.Views.{plan_whole}
use Rattle.kc_command.specs.declared.halt.Halt.{Halt}
use Rattle.kc_command.specs.declared.halt.Halt.TheVariants.{Refused, Store, Memory}
use Rattle.kc_command.specs.Kernels.{KernelAt}
use Rattle.kc_command.specs.Slots.{refused_slot}
use Rattle.kc_command.specs.Ends.Asked.{Asked}
use Rattle.kc_cause.specs.declared.files.Asks.{Asks}
use Rattle.kc_cause.specs.declared.planned.KernelRead.{KernelRead}
use Rattle.kc_cause.specs.declared.planned.Planned.{Planned}
use Rattle.kc_told.specs.SeenText.{map_symbols}
use Rattle.kc_told.specs.Views.{shapes_view}
use Rattle.kc_cause.specs.Explained.{Explained, PlanOver, cause_made, explained_by}

-- the files of an audit by their names
pub record AuditFiles : Type 0 where
  pub dump : List ℕ
  pub btf : List ℕ
  pub map : List ℕ
  pub plan : List ℕ

-- the report's by its name too
pub record ReportFiles : Type 0 where
  pub files : AuditFiles
  pub report : List ℕ

-- in the order in which they are read
abbrev pub cause_asked : ReportFiles → Asked Explained
cause_asked f = record {
  named = record { slot = slot.Dump; name = f.files.dump } ∷ record { slot = slot.Btf; name = f.files.btf } ∷ record { slot = slot.Map; name = f.files.map }
      ∷ record { slot = slot.Plan; name = f.files.plan } ∷ record { slot = slot.Report; name = f.report } ∷ [];
  made = λ files. cause_made (files slot.Dump) (files slot.Btf) (files slot.Map) (files slot.Plan) (files slot.Report);
}

-- as the code keeps them
abbrev pub report_files : Asks → ReportFiles
report_files a = record {
  files = record { dump = a.files.dump.now; btf = a.files.btf.now; map = a.files.map.now; plan = a.plan.now };
  report = a.report.now;
}

-- the files of a kernel and a plan, as the code keeps them
abbrev pub kernel_read : KernelRead → KernelAt
kernel_read k = record { segments = k.core.now.segments; notes = k.core.now.notes; told = k.info; types = k.types.now; map = k.map.now }

abbrev pub planned_view : Planned → PlanOver
planned_view p = record { plan = plan_whole p.plan; shapes = shapes_view p.shapes; slabs = p.slabs; symbols = map_symbols p.shapes.map }

-- what is explained by these, where the dump has these bytes
abbrev pub explained_of : KernelRead → Planned → List ℕ → Explained
explained_of kernel planned bytes = explained_by (kernel_read kernel) (planned_view planned) bytes

-- a refusal is about the map, and the plan's slot is then as before, or it is about the plan
abbrev pub RefusesLate : {A : Type 0} → Result A Halt → (Slot → Option (List ℕ)) → (Slot → Option (List ℕ)) → Type 0
RefusesLate (Ok a) old new = ⊤
RefusesLate (Err (Refused refusal)) old new =
    ((refused_slot refusal ≡ Some slot.Map) × (new slot.Plan ≡ old slot.Plan)) ⊎ (refused_slot refusal ≡ Some slot.Plan)
RefusesLate (Err Store) old new = ⊤
RefusesLate (Err Memory) old new = ⊤
