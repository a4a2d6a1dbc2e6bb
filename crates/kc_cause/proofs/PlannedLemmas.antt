-- A plan over the files of a kernel, step by step.
use Rattle.std.proofs.Common.{◌≡◌, ℕ, List, Option, Some, None, Result, Ok, Err, refl, sym, ap, ◌∙◌}
use Rattle.kc_outside.specs.declared.store.Slot.TheVariants as slot
use Rattle.kc_outside.specs.Files.{Files as Told}
use Rattle.kc_btf.specs.Btf.{Types}
use Rattle.kc_notes.specs.declared.info.Info.{Info}
use Rattle.kc_syms.specs.Rows.{RowText, addresses}
use Rattle.kc_slabs.specs.declared.looking.SlabShapes.{SlabShapes}
use Rattle.kc_slabs.specs.OfCache.{slab_shapes}
use Rattle.kc_plan.specs.declared.plan.Plan.{Plan}
use Rattle.kc_plan.specs.Views.{plan_whole}
use Rattle.kc_command.specs.Inputs.{plan_in, rows_in}
use Rattle.kc_command.specs.Kernels.{KernelAt}
use Rattle.kc_command.specs.declared.halt.Halt.{Halt}
use Rattle.kc_command.specs.declared.halt.Halt.TheVariants.{Refused, Store, Memory}
use Rattle.kc_command.specs.Made.{Halts, IsOf, gives}
use Rattle.kc_told.specs.declared.told.Shapes.{Shapes}
use Rattle.kc_told.specs.Objects.{kernel_by, kernel_with, shapes_by}
use Rattle.kc_told.specs.SeenText.{map_symbols, symbols_by}
use Rattle.kc_told.specs.Views.{shapes_view}
use Rattle.kc_audit.specs.Audits.{plan_over}
use Rattle.kc_cause.specs.Explained.{PlanOver, planned_in}
use Rattle.kc_cause.specs.Files.{planned_view}

-- a plan over the rows of a map, and what tells of an address
pub planned_told : {Y : Type 0} (told : Option Told) (name : List ℕ) (k : KernelAt) (note : List ℕ) (read : Y → List ℕ) (bytes : Y) (rows : List RowText) (plan : Plan) (shapes : Shapes) (slabs : Option SlabShapes)
    → rows_in k.map ≡ gives rows → IsOf read (λ files. plan_in (files slot.Plan name)) told (Ok bytes)
    → plan_over k.types rows k.told (read bytes) ≡ gives (plan_whole plan)
    → shapes_view shapes ≡ shapes_by k.types rows k.told note → slabs ≡ slab_shapes (kernel_by k.types rows k.told) note → map_symbols shapes.map ≡ symbols_by k.told.kaslr rows
    → IsOf planned_view (λ files. planned_in k note (files slot.Plan name)) told (Ok (record { plan = plan; shapes = shapes; slabs = slabs }))
planned_told None name k note read bytes rows plan shapes slabs rowed planned is shaped slabbed marked = tt
planned_told (Some files) name k note read bytes rows plan shapes slabs rowed planned is shaped slabbed marked =
    rw (rowed, planned, is) (λ i. Some (Ok (record { plan = plan_whole plan; shapes = sym shaped i; slabs = sym slabbed i; symbols = sym marked i })))

-- what tells of slabs, by the rows of a map that was read
pub slabs_read : (types : Types) (info : Info) (note : List ℕ) (symbols : List ℕ → List ℕ) (rows : List RowText) (slabs : Option SlabShapes) → ((name : List ℕ) → symbols name ≡ addresses name rows)
    → slabs ≡ slab_shapes (kernel_with types symbols info) note → slabs ≡ slab_shapes (kernel_by types rows info) note
slabs_read types info note symbols rows slabs same is =
    let one : symbols ≡ (λ name. addresses name rows) = λ i name. same name i in
    is ∙ ap (λ (f : List ℕ → List ℕ). slab_shapes (kernel_with types f info) note) one

-- or the fault of the plan
pub planned_stops : {X Y : Type 0} (told : Option Told) (name : List ℕ) (k : KernelAt) (note : List ℕ) (read : Y → List ℕ) (view : X → PlanOver) (bytes : Y) (rows : List RowText) (halt : Halt) (r : Result X Halt)
    → rows_in k.map ≡ gives rows → IsOf read (λ files. plan_in (files slot.Plan name)) told (Ok bytes)
    → Halts (plan_over k.types rows k.told (read bytes)) halt → r ≡ Err halt
    → IsOf view (λ files. planned_in k note (files slot.Plan name)) told r
planned_stops None name k note read view bytes rows halt r rowed planned stops is = tt
planned_stops (Some files) name k note read view bytes rows (Refused fault) r rowed planned stops is = rw is (rw (rowed, planned, stops) refl)
planned_stops (Some files) name k note read view bytes rows Store r rowed planned stops is = rw is tt
planned_stops (Some files) name k note read view bytes rows Memory r rowed planned stops is = rw is tt
