-- What follows of the calls of a store from those that read a file.
use Rattle.std.proofs.Common.{◌≡◌, ℕ, ap, sym, ◌∙◌, inr}
use Rattle.std.specs.Prelude.{Result, Ok, Err}
use Rattle.kc_command.specs.declared.halt.Halt.{Halt}
use Rattle.kc_command.specs.declared.halt.Halt.TheVariants.{Refused, Store, Memory}
use Rattle.kc_command.specs.Calls.{ReadsOnce, RefusesRead, called}
use Rattle.kc_command.specs.Halts.{NotStore}

-- a file was read, and what came after called nothing
pub reads_on : {A S : Type 0} (faults asked : S → ℕ) (r : Result A Halt) (old new : S) → asked new ≡ called 3 (asked old) → NotStore r → RefusesRead r → ReadsOnce faults asked r old new
reads_on faults asked (Ok a) old new three quiet late = three
reads_on faults asked (Err (Refused refusal)) old new three quiet late = three ∙ ap (λ n. called n (asked old)) (sym late)
reads_on faults asked (Err Store) old new three quiet late = absurd quiet
reads_on faults asked (Err Memory) old new three quiet late = inr three
