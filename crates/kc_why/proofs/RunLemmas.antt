-- What the words came to, by the functions that they lead to.
use Rattle.std.proofs.Common.{◌≡◌, ℕ, List, Option, Some, Result, Ok, Err, IfOk, OnErr}
use Rattle.kc_outside.specs.declared.store.Slot.{Slot}
use Rattle.kc_outside.specs.declared.store.Slot.TheVariants as slot
use Rattle.kc_outside.specs.Files.{Files, named}
use Rattle.kc_command.specs.declared.halt.Halt.{Halt}
use Rattle.kc_command.specs.declared.kernel.Kernel.{Kernel}
use Rattle.kc_command.specs.Inputs.{view_headers}
use Rattle.kc_command.specs.Kernels.{kernel_in, kernel_view}
use Rattle.kc_command.specs.Made.{IsOf}
use Rattle.kc_command.specs.declared.ends.answer.Answer.{Answer}
use Rattle.kc_command.specs.Ends.Answers.{PrintsOf, StayBehind}
use Rattle.kc_command.specs.Ends.Asked.{Asked, asked_files}
use Rattle.kc_command.specs.Ends.Written.{Written}
use Rattle.kc_why.specs.declared.files.FailedSink.{FailedSink}
use Rattle.kc_why.specs.Rest.{Comes, LeavesOf, LeavesOfBytes, PartOf, PartOfBytes}
use Rattle.kc_why.specs.Why.{Question, shown_in, why_made, why_written}
use Rattle.kc_why.proofs.HuntLemmas.{leaves_made, part_made}
use Rattle.kc_why.proofs.RestLemmas.{leaves_whole_of}

pub leaves_made_as : (question : Question) (files : Option Files) (dump btf map : List ℕ) (kernel : Kernel) (content : Option (List ℕ)) (r : Result (Result Answer Halt) FailedSink) (old new err_old err_new : Option (List ℕ))
    → IsOf kernel_view (λ told. kernel_in view_headers (told slot.Dump dump) (told slot.Btf btf) (told slot.Map map)) files (Ok kernel) → content ≡ named files slot.Dump dump
    → IfOk r (λ r. LeavesOfBytes why_written (λ bytes. shown_in question bytes (kernel_view kernel)) content r old new err_old err_new)
    → IfOk r (λ r. LeavesOf why_written (λ told. why_made question (told slot.Dump dump) (told slot.Btf btf) (told slot.Map map)) files r old new err_old err_new)
leaves_made_as question files dump btf map kernel content (Ok r) old new err_old err_new is same leaves = leaves_made question files dump btf map kernel content r old new err_old err_new is same leaves
leaves_made_as question files dump btf map kernel content (Err e) old new err_old err_new is same leaves = tt

pub part_made_as : (question : Question) (files : Option Files) (dump btf map : List ℕ) (kernel : Kernel) (content : Option (List ℕ)) (r : Result (Result Answer Halt) FailedSink) (old new : Option (List ℕ))
    → IsOf kernel_view (λ told. kernel_in view_headers (told slot.Dump dump) (told slot.Btf btf) (told slot.Map map)) files (Ok kernel) → content ≡ named files slot.Dump dump
    → OnErr r (PartOfBytes why_written (λ bytes. shown_in question bytes (kernel_view kernel)) content old new)
    → OnErr r (PartOf why_written (λ told. why_made question (told slot.Dump dump) (told slot.Btf btf) (told slot.Map map)) files old new)
part_made_as question files dump btf map kernel content (Ok r) old new is same took = tt
part_made_as question files dump btf map kernel content (Err e) old new is same took = part_made question files dump btf map kernel content old new is same took

-- what words came to that ask for something, where nothing was taken before
pub came_whole : {A : Type 0} (write : A → Written) (asks : Option (Asked A)) (asked : Asked A) (files : Option Files) (r : Result Answer Halt) (opened_old opened_new : Slot → Option (List ℕ)) (old err : Option (List ℕ))
    → asks ≡ Some asked → PrintsOf write (λ f. asked.made (asked_files asked f)) files r → StayBehind asked.named r opened_old opened_new → Comes write asks files (Some r) opened_old opened_new old old err err
came_whole write asks asked files r opened_old opened_new old err is prints unopened =
    record { asked = asked; is = is; leaves = leaves_whole_of write (λ f. asked.made (asked_files asked f)) files r old err prints; unopened = unopened }
