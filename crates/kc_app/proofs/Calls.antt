-- How often `layout` calls its store, by how the program ends.
use Rattle.std.proofs.Common.{◌≡◌, ℕ, nat_eq, List, Option, Some, None, inl, inr, sym, ◌∙◌, ap}
use Rattle.std.specs.Prelude.{Result, Ok, Err}
use Rattle.std.specs.Bool.{OnTrue}
use Rattle.kc_command.specs.declared.halt.Halt.{Halt}
use Rattle.kc_command.specs.declared.halt.Halt.TheVariants.{Refused, Store, Memory}
use Rattle.kc_command.specs.declared.refusal.Refusal.{Refusal}
use Rattle.kc_command.specs.declared.refusal.Refusal.TheVariants as refusals
use Rattle.kc_command.specs.declared.refusal.ReportFault.TheVariants as faults_of
use Rattle.kc_command.specs.Calls.{called, refused_calls}
use Rattle.kc_command.specs.declared.ends.answer.Answer.{Answer}
use Rattle.kc_command.specs.declared.ends.answer.Answer.TheVariants.{Done, Broken}
use Rattle.kc_command.specs.declared.ends.status.Status.{Status}
use Rattle.kc_command.specs.declared.ends.status.Status.TheVariants as status
use Rattle.kc_command.specs.Ends.Answers.{ending}
use Rattle.kc_command.specs.Ends.Ends.{IsWritten}
use Rattle.kc_command.specs.Ends.Status.{At, is_answer}
use Rattle.kc_app.specs.Calls.{FewCalls, LayoutCalls}

-- the calls of a refusal are two or three
refused_few : {S : Type 0} (faults asked : S → ℕ) (old new : S) (refusal : Refusal) → asked new ≡ called (refused_calls refusal) (asked old) → FewCalls faults asked old new
refused_few faults asked old new (refusals.Tables fault) is = inr (inr (inl is))
refused_few faults asked old new (refusals.Log fault) is = inr (inr (inl is))
refused_few faults asked old new (refusals.TooLong slot) is = inr (inl is)
refused_few faults asked old new (refusals.Core f) is = inr (inr (inl is))
refused_few faults asked old new (refusals.Notes f) is = inr (inr (inl is))
refused_few faults asked old new (refusals.Types f) is = inr (inr (inl is))
refused_few faults asked old new (refusals.Module f) is = inr (inr (inl is))
refused_few faults asked old new (refusals.MapLine n) is = inr (inr (inl is))
refused_few faults asked old new (refusals.Symbol f) is = inr (inr (inl is))
refused_few faults asked old new refusals.NoType is = inr (inr (inl is))
refused_few faults asked old new (refusals.Path f) is = inr (inr (inl is))
refused_few faults asked old new (refusals.Plan f) is = inr (inr (inl is))
refused_few faults asked old new (refusals.Certificate n) is = inr (inr (inl is))
refused_few faults asked old new (refusals.Report faults_of.F1) is = inr (inl is)
refused_few faults asked old new (refusals.Report (faults_of.Y1 at)) is = inr (inr (inl is))
refused_few faults asked old new (refusals.Report faults_of.Y2) is = inr (inr (inl is))

pub few : {S : Type 0} (faults asked : S → ℕ) (outcome : Option (Result Answer Halt)) (old new : S) → LayoutCalls faults asked outcome old new → FewCalls faults asked old new
few faults asked None old new is = inl is
few faults asked (Some (Ok answer)) old new is = inr (inr (inl is))
few faults asked (Some (Err (Refused refusal))) old new is = refused_few faults asked old new refusal is
few faults asked (Some (Err Store)) old new is = inr (inr (inr is))
few faults asked (Some (Err Memory)) old new (inl is) = inr (inl is)
few faults asked (Some (Err Memory)) old new (inr is) = inr (inr (inl is))

-- status 0 is that of an answer
pub done : {S : Type 0} (faults asked : S → ℕ) (usage : List ℕ) (outcome : Option (Result Answer Halt)) (old new : S) (out_old out_new err_old err_new : Option (List ℕ))
    → LayoutCalls faults asked outcome old new → IsWritten (ending usage outcome) status.Done out_old out_new err_old err_new → asked new ≡ called 3 (asked old)
done faults asked usage None old new out_old out_new err_old err_new is told = absurd (let none : status.Done ≡ status.NoCommand = told.ends in cc)
done faults asked usage (Some (Ok answer)) old new out_old out_new err_old err_new is told = is
done faults asked usage (Some (Err (Refused refusal))) old new out_old out_new err_old err_new is told = absurd (let none : status.Done ≡ status.Refused = told.ends in cc)
done faults asked usage (Some (Err Store)) old new out_old out_new err_old err_new is told = absurd told
done faults asked usage (Some (Err Memory)) old new out_old out_new err_old err_new is told = absurd told

pub done_at : {S : Type 0} (faults asked : S → ℕ) (usage : List ℕ) (outcome : Option (Result Answer Halt)) (old new : S) (s : Status) (out_old out_new err_old err_new : Option (List ℕ))
    → LayoutCalls faults asked outcome old new → OnTrue (is_answer s) (IsWritten (ending usage outcome) s out_old out_new err_old err_new) → At s status.Done (asked new ≡ called 3 (asked old))
done_at faults asked usage outcome old new status.Done out_old out_new err_old err_new is told = done faults asked usage outcome old new out_old out_new err_old err_new is told
done_at faults asked usage outcome old new status.Broken out_old out_new err_old err_new is told = tt
done_at faults asked usage outcome old new status.Refused out_old out_new err_old err_new is told = tt
done_at faults asked usage outcome old new status.StoreFailed out_old out_new err_old err_new is told = tt
done_at faults asked usage outcome old new status.SinkFailed out_old out_new err_old err_new is told = tt
done_at faults asked usage outcome old new status.OutOfMemory out_old out_new err_old err_new is told = tt
done_at faults asked usage outcome old new status.NoCommand out_old out_new err_old err_new is told = tt
