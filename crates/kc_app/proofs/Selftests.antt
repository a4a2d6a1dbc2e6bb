-- That `selftest` ends by itself.
use Rattle.std.proofs.Common.{◌≡◌, ◌⊎◌, ◌||◌, nat_eq, Option, Some, Result, Err, refl, inl, inr}
use Rattle.std.specs.Prelude.{IsTrue}
use Rattle.kc_command.specs.declared.halt.Halt.{Halt}
use Rattle.kc_command.specs.declared.halt.Halt.TheVariants.{Store}
use Rattle.kc_command.specs.declared.ends.answer.Answer.{Answer}
use Rattle.kc_command.specs.declared.ends.status.Status.{Status}
use Rattle.kc_command.specs.declared.ends.status.Status.TheVariants.{Done, Broken, Refused, StoreFailed, SinkFailed, OutOfMemory, NoCommand}
use Rattle.kc_command.specs.Ends.Answers.{OnStoreIn}
use Rattle.kc_command.specs.Ends.Status.{At, is_answer, number}

-- where the store didn't fail and no sink did, there is an answer or want of memory
pub answers_or_memory : {A B : Type 0} (status : Status) (outcome : Option (Result Answer Halt)) → OnStoreIn outcome ⊥ → At status StoreFailed (outcome ≡ Some (Err Store))
    → At status SinkFailed (A ⊎ B) → (A → ⊥) → (B → ⊥) → IsTrue (is_answer status || nat_eq (number status) 5)
answers_or_memory Done outcome sure store sink out err = refl
answers_or_memory Broken outcome sure store sink out err = refl
answers_or_memory Refused outcome sure store sink out err = refl
answers_or_memory StoreFailed outcome sure store sink out err = absurd (rw store at sure)
answers_or_memory SinkFailed outcome sure store sink out err = absurd (elim sink [ inl a ↦ out a | inr b ↦ err b ])
answers_or_memory OutOfMemory outcome sure store sink out err = refl
answers_or_memory NoCommand outcome sure store sink out err = refl
