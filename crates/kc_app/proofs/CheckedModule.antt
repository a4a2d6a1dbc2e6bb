-- What the five files of a check with a module hold, step by step.
use Rattle.std.proofs.Common.{◌≡◌, ◌∙◌, ◌≤◌, ℕ, List, Option, Some, None, Result, Ok, Err, inl, inr, refl, subst}
use Rattle.kc_outside.specs.declared.store.Slot.{Slot}
use Rattle.kc_outside.specs.declared.store.Slot.TheVariants as slot
use Rattle.kc_outside.specs.Counts.{Rose}
use Rattle.kc_outside.specs.Files.{Files as Told, named}
use Rattle.kc_btf.specs.Btf.{Types}
use Rattle.kc_plan.specs.declared.plan.Plan.{Plan}
use Rattle.kc_plan.specs.Planned.{PlanAt}
use Rattle.kc_plan.specs.Views.{plan_whole}
use Rattle.kc_command.specs.declared.halt.Halt.{Halt}
use Rattle.kc_command.specs.declared.halt.Halt.TheVariants.{Refused, Store, Memory}
use Rattle.kc_command.specs.declared.kernel.Noted.{Noted}
use Rattle.kc_command.specs.Inputs.{map_in, module_in, types_in}
use Rattle.kc_command.specs.Kernels.{NotedAt, noted_in, noted_view}
use Rattle.kc_command.specs.Made.{IsOf, gives}
use Rattle.kc_command.specs.Paging.{by_info}
use Rattle.kc_command.specs.Ends.Answers.{StayBehind}
use Rattle.kc_app.specs.Check.{RefusesLate, audited_by, planned_in}
use Rattle.kc_app.specs.CheckModule.{FiveFiles, audited_with, module_asked}
use Rattle.kc_app.specs.Held.{Holds}
use Rattle.kc_app.specs.Reads.{ReadsFiles}

-- a late refusal leaves the files after it unopened
pub late_stays : (most : ℕ) (A B : Type 0) (f : FiveFiles) (halt : Halt) (r : Result B Halt) (old before new : Slot → Option (List ℕ)) → r ≡ Err halt → before slot.Plan ≡ old slot.Plan
    → RefusesLate {A = A} (Err halt) before new → StayBehind (module_asked most f).named r old new
late_stays most A B f (Refused refusal) r old before new is kept (inl late) = rw (is, late.0) (rw kept at late.1, tt)
late_stays most A B f (Refused refusal) r old before new is kept (inr late) = rw (is, late) tt
late_stays most A B f Store r old before new is kept late = rw is tt
late_stays most A B f Memory r old before new is kept late = rw is tt

-- what is made of a dump that is there
made_held : (most : ℕ) (file btf split map plan content : Option (List ℕ)) (noted : NotedAt) (base types : Types) (listed : List ℕ) (planned : PlanAt)
    → noted_in most file ≡ gives noted → types_in btf ≡ gives base → module_in base split ≡ gives types → map_in map ≡ gives listed → planned_in types noted.told listed plan ≡ gives planned → content ≡ file
    → (bytes : List ℕ) × (content ≡ Some bytes) × (audited_with most file btf split map plan ≡ gives (audited_by noted.parts.segments (by_info noted.told) planned bytes))
made_held most None btf split map plan content noted base types listed planned is typed joined mapped found same = absurd (let none : ⊥ = cc in none)
made_held most (Some bytes) btf split map plan content noted base types listed planned is typed joined mapped found same = (bytes, same, rw (is, typed, joined, mapped, found) refl)

-- and where the files are told
pub module_holds : (most : ℕ) {X : Type 0} (files : Option Told) (f : FiveFiles) (noted : Noted) (base types : Types) (bytes : X → List ℕ) (listed : X) (plan : Plan) (content : Option (List ℕ))
    → IsOf noted_view (λ files. noted_in most (files slot.Dump f.files.dump)) files (Ok noted)
    → IsOf {X = Types} (λ x. x) (λ files. types_in (files slot.Btf f.files.btf)) files (Ok base)
    → IsOf {X = Types} (λ x. x) (λ files. module_in base (files slot.Module f.split)) files (Ok types)
    → IsOf bytes (λ files. map_in (files slot.Map f.files.map)) files (Ok listed)
    → IsOf plan_whole (λ files. planned_in types noted.info (bytes listed) (files slot.Plan f.files.plan)) files (Ok plan)
    → content ≡ named files slot.Dump f.files.dump
    → Holds (λ files. audited_with most (files slot.Dump f.files.dump) (files slot.Btf f.files.btf) (files slot.Module f.split) (files slot.Map f.files.map) (files slot.Plan f.files.plan)) files content
    (Ok (record { core = noted.core; info = noted.info; types = types; plan = plan }))
module_holds most None f noted base types bytes listed plan content is typed joined mapped planned same = tt
module_holds most (Some files) f noted base types bytes listed plan content is typed joined mapped planned same =
    made_held most (files slot.Dump f.files.dump) (files slot.Btf f.files.btf) (files slot.Module f.split) (files slot.Map f.files.map) (files slot.Plan f.files.plan) content
    (noted_view noted) base types (bytes listed) (plan_whole plan) is typed joined mapped planned same

-- a call that ends the reading, after some that didn't fail
pub reads_after : {S A B : Type 0} (files : S → Option Told) (faults : S → ℕ) (halt : Halt) (r : Result B Halt) (old mid new : S) → r ≡ Err halt → files mid ≡ files old → faults mid ≡ faults old
    → ReadsFiles {A = A} files faults (Err halt) mid new → ReadsFiles files faults r old new
reads_after files faults (Refused refusal) r old mid new is same calm k =
    rw is (record { same = k.same ∙ same; later = subst (λ (n : ℕ). n ≤ faults new) calm k.later; quiet = k.quiet ∙ calm; cause = tt })
reads_after files faults Store r old mid new is same calm k =
    rw is (record { same = k.same ∙ same; later = subst (λ (n : ℕ). n ≤ faults new) calm k.later; quiet = tt; cause = subst (λ (n : ℕ). Rose n (faults new)) calm k.cause })
reads_after files faults Memory r old mid new is same calm k =
    rw is (record { same = k.same ∙ same; later = subst (λ (n : ℕ). n ≤ faults new) calm k.later; quiet = k.quiet ∙ calm; cause = tt })
