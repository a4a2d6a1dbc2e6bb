-- What explains a report, as it is shown.
use Rattle.std.proofs.Common.{◌≡◌, Option, Some, None, Result, Ok, Err, ap}
use Rattle.kc_outside.specs.Files.{Files as Told}
use Rattle.kc_command.specs.declared.halt.Halt.{Halt}
use Rattle.kc_command.specs.declared.halt.Halt.TheVariants.{Refused, Store, Memory}
use Rattle.kc_command.specs.declared.refusal.Refusal.{Refusal}
use Rattle.kc_command.specs.Made.{◌>>=◌, Made, gives}
use Rattle.kc_command.specs.declared.ends.answer.Answer.{Answer}
use Rattle.kc_command.specs.Ends.Answers.{Prints, PrintsOf}
use Rattle.kc_cause.specs.Explained.{Explained, explained_written}
use Rattle.kc_why.specs.Why.{Tells, why_written}

told_one : (made : Made Explained) (r : Result Answer Halt) → Prints explained_written made r → Prints why_written (made >>= (λ e. gives (Tells e))) r
told_one None (Ok answer) is = is
told_one None (Err (Refused refusal)) is = absurd (let none : ⊥ = cc in none)
told_one None (Err Store) is = tt
told_one None (Err Memory) is = tt
told_one (Some (Ok e)) (Ok answer) is = is
told_one (Some (Ok e)) (Err (Refused refusal)) is = absurd (let none : ⊥ = cc in none)
told_one (Some (Ok e)) (Err Store) is = tt
told_one (Some (Ok e)) (Err Memory) is = tt
told_one (Some (Err fault)) (Ok answer) is = is
told_one (Some (Err fault)) (Err (Refused refusal)) is = let same : fault ≡ refusal = cc in ap (λ (f : Refusal). Some (Err f)) same
told_one (Some (Err fault)) (Err Store) is = tt
told_one (Some (Err fault)) (Err Memory) is = tt

-- where the files are told
pub told_prints : (made : Told → Made Explained) (files : Option Told) (r : Result Answer Halt) → PrintsOf explained_written made files r
    → PrintsOf why_written (λ f. made f >>= (λ e. gives (Tells e))) files r
told_prints made None r is = tt
told_prints made (Some files) r is = told_one (made files) r is
