-- What the bytes of a plan ask for, over the files of a kernel.
use Rattle.std.specs.Prelude.{ℕ, List, map}
use Rattle.kc_btf.specs.Btf.{Types}
use Rattle.kc_notes.specs.declared.info.Info.{Info}
use Rattle.kc_syms.specs.Rows.{RowText, addresses}
use Rattle.kc_plan.specs.Planned.{AuditAt, PlanAt}
use Rattle.kc_kinds.specs.Kernels.{Kernel}
use Rattle.kc_plan.specs.Plans.{plan}
use Rattle.kc_command.specs.declared.refusal.Refusal.TheVariants as refusal
use Rattle.kc_command.specs.Made.{Made, checked}

-- a kernel's types, the addresses that the rows of its map list, and what its notes tell
abbrev pub kernel_by : Types → List RowText → Info → Kernel
kernel_by types rows told = record { types = types; symbols = λ name. addresses name rows; kaslr = told.kaslr; five = told.five }

-- a plan over these, or its first fault
abbrev pub plan_over : Types → List RowText → Info → List ℕ → Made PlanAt
plan_over types rows told bytes = checked refusal.Plan (plan (kernel_by types rows told) bytes)

-- the audits' names
abbrev pub names_of : List AuditAt → List (List ℕ)
names_of audits = map (λ (audit : AuditAt). audit.name) audits
