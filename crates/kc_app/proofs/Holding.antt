-- What the four files of an audit hold, step by step.
use Rattle.std.proofs.Common.{◌≡◌, ℕ, List, Option, Some, None, Result, Ok, Err, refl}
use Rattle.kc_outside.specs.declared.store.Slot.{Slot}
use Rattle.kc_outside.specs.declared.store.Slot.TheVariants as slot
use Rattle.kc_outside.specs.Files.{Files as Told, named}
use Rattle.kc_plan.specs.declared.plan.Plan.{Plan}
use Rattle.kc_plan.specs.Planned.{PlanAt}
use Rattle.kc_plan.specs.Views.{plan_whole}
use Rattle.kc_command.specs.declared.halt.Halt.{Halt}
use Rattle.kc_command.specs.declared.halt.Halt.TheVariants.{Refused, Store, Memory}
use Rattle.kc_command.specs.declared.kernel.Kernel.{Kernel}
use Rattle.kc_command.specs.Kernels.{KernelAt, kernel_files, kernel_in, kernel_view}
use Rattle.kc_command.specs.Made.{◌>>=◌, IsOf, Made, gives}
use Rattle.kc_command.specs.Paging.{by_info}
use Rattle.kc_command.specs.Slots.{refused_slot}
use Rattle.kc_command.specs.declared.ends.answer.Answer.{Answer}
use Rattle.kc_command.specs.Ends.Answers.{PrintsOf, PrintsOfBytes, StayBehind}
use Rattle.kc_command.specs.Ends.Asked.{AllStay, behind}
use Rattle.kc_app.specs.declared.held.HeldFiles.{HeldFiles}
use Rattle.kc_app.specs.declared.plan_files.PlanFiles.{PlanFiles}
use Rattle.kc_app.specs.Check.{Audited, audited, audited_by, audited_shown, check_asked, files_view, planned_in}
use Rattle.kc_app.specs.Fitted.{RepliesOf, RepliesOfBytes}
use Rattle.kc_app.specs.Held.{Holds, audited_of}
use Rattle.kc_app.specs.Reply.{Reply}
use Rattle.kc_app.specs.Shown.{shown_written}

-- what is made of a dump that is there
made_held : (most : ℕ) (file btf map plan content : Option (List ℕ)) (kernel : KernelAt) (planned : PlanAt)
    → kernel_in most file btf map ≡ gives kernel → planned_in kernel.types kernel.told kernel.map plan ≡ gives planned → content ≡ file
    → (bytes : List ℕ) × (content ≡ Some bytes) × (audited most file btf map plan ≡ gives (audited_by kernel.segments (by_info kernel.told) planned bytes))
made_held most None btf map plan content kernel planned is found same = absurd (let none : ⊥ = cc in none)
made_held most (Some bytes) btf map plan content kernel planned is found same = (bytes, same, rw (is, found) refl)

-- and where the files are told
pub holds : (most : ℕ) (files : Option Told) (a : PlanFiles) (kernel : Kernel) (plan : Plan) (content : Option (List ℕ))
    → IsOf kernel_view (λ files. kernel_in most (files slot.Dump a.kernel.dump.now) (files slot.Btf a.kernel.btf.now) (files slot.Map a.kernel.map.now)) files (Ok kernel)
    → IsOf plan_whole (λ files. planned_in kernel.types kernel.info kernel.map.items (files slot.Plan a.plan.now)) files (Ok plan)
    → content ≡ named files slot.Dump a.kernel.dump.now
    → Holds (λ files. audited most (files slot.Dump a.kernel.dump.now) (files slot.Btf a.kernel.btf.now) (files slot.Map a.kernel.map.now) (files slot.Plan a.plan.now)) files content
    (Ok (record { core = kernel.core; info = kernel.info; types = kernel.types; plan = plan }))
holds most None a kernel plan content is planned same = tt
holds most (Some files) a kernel plan content is planned same =
    made_held most (files slot.Dump a.kernel.dump.now) (files slot.Btf a.kernel.btf.now) (files slot.Map a.kernel.map.now) (files slot.Plan a.plan.now) content (kernel_view kernel) (plan_whole plan) is planned same

-- what is shown of what they hold
pub held_prints : (made : Told → Made Audited) (files : Option Told) (content : Option (List ℕ)) (held : HeldFiles) (r : Result Answer Halt) → Holds made files content (Ok held)
    → PrintsOfBytes shown_written (λ bytes. gives (audited_shown (audited_of held bytes))) content r
    → PrintsOf shown_written (λ files. made files >>= (λ all. gives (audited_shown all))) files r
held_prints made None content held r is prints = tt
held_prints made (Some files) content held r is prints = rw is.2 (rw is.1 at prints)

-- and what is replied
pub held_replies : (made : Told → Made Audited) (reply : Audited → Reply) (files : Option Told) (content : Option (List ℕ)) (held : HeldFiles) (r : Result Answer Halt) → Holds made files content (Ok held)
    → RepliesOfBytes (λ bytes. reply (audited_of held bytes)) content r
    → RepliesOf (λ files. made files >>= (λ all. gives (reply all))) files r
held_replies made reply None content held r is replies = tt
held_replies made reply (Some files) content held r is replies = rw is.2 (rw is.1 at replies)

-- a refusal of a file of the kernel leaves the plan unopened too
stays_more : (most : ℕ) (a : PlanFiles) (one : Option Slot) (old new : Slot → Option (List ℕ)) → new slot.Plan ≡ old slot.Plan
    → AllStay (behind one (kernel_files a.kernel)) old new → AllStay (behind one (check_asked most (files_view a)).named) old new
stays_more most a None old new kept stay = tt
stays_more most a (Some slot.Dump) old new kept stay = (stay.0, (stay.1.0, (kept, tt)))
stays_more most a (Some slot.Btf) old new kept stay = (stay.0, (kept, tt))
stays_more most a (Some slot.Map) old new kept stay = (kept, tt)
stays_more most a (Some slot.Plan) old new kept stay = tt
stays_more most a (Some slot.Report) old new kept stay = tt
stays_more most a (Some slot.Module) old new kept stay = tt

pub three_stay : (most : ℕ) (A B : Type 0) (a : PlanFiles) (halt : Halt) (r : Result B Halt) (old new : Slot → Option (List ℕ)) → r ≡ Err halt → new slot.Plan ≡ old slot.Plan
    → StayBehind {A = A} (kernel_files a.kernel) (Err halt) old new → StayBehind (check_asked most (files_view a)).named r old new
three_stay most A B a (Refused refusal) r old new is kept stay = rw is (stays_more most a (refused_slot refusal) old new kept stay)
three_stay most A B a Store r old new is kept stay = rw is tt
three_stay most A B a Memory r old new is kept stay = rw is tt
