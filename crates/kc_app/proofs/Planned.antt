-- A plan over the rows of a map.
use Rattle.std.proofs.Common.{◌≡◌, ℕ, List, Option, Some, None, Result, Ok}
use Rattle.kc_outside.specs.declared.store.Slot.TheVariants.{Plan as PlanSlot}
use Rattle.kc_outside.specs.Files.{Files}
use Rattle.kc_btf.specs.Btf.{Types}
use Rattle.kc_notes.specs.declared.info.Info.{Info}
use Rattle.kc_syms.specs.Rows.{RowText}
use Rattle.kc_plan.specs.declared.plan.Plan.{Plan}
use Rattle.kc_plan.specs.Views.{plan_whole}
use Rattle.kc_command.specs.declared.halt.Halt.{Halt}
use Rattle.kc_command.specs.Inputs.{plan_in, rows_in}
use Rattle.kc_command.specs.Made.{Is, IsOf, gives}
use Rattle.kc_audit.specs.Audits.{plan_over}
use Rattle.kc_app.specs.Check.{planned_in}

-- where the files are told
pub planned_told : {Y : Type 0} (told : Option Files) (map plan : List ℕ) (types : Types) (info : Info) (read : Y → List ℕ) (bytes : Y) (rows : List RowText)
    (result : Result Plan Halt) → rows_in map ≡ gives rows
    → IsOf read (λ files. plan_in (files PlanSlot plan)) told (Ok bytes) → Is plan_whole (plan_over types rows info (read bytes)) result
    → IsOf plan_whole (λ files. planned_in types info map (files PlanSlot plan)) told result
planned_told None map plan types info read bytes rows result rowed planned is = tt
planned_told (Some files) map plan types info read bytes rows result rowed planned is = rw (rowed, planned) is
