-- The calls that read a file.
use Rattle.std.proofs.Common.{◌≡◌, ℕ, lit<, ap, ◌∙◌, inl}
use Rattle.std.specs.Prelude.{Result, Ok, Err, IfOk}
use Rattle.kc_outside.specs.Counts.{Rose, next_count}
use Rattle.kc_command.specs.declared.halt.Halt.{Halt}
use Rattle.kc_command.specs.declared.halt.Halt.TheVariants.{Refused, Store, Memory}
use Rattle.kc_command.specs.Calls.{ReadsOnce, called}
use Rattle.kc_command.specs.Halts.{NotRefused, OnMemory, OnStore}

-- a file that was opened and sized is read, or that call fails, or no memory is left for its bytes
pub whole : {A S : Type 0} (faults asked : S → ℕ) (r : Result A Halt) (old mid new : S) → faults mid ≡ faults old → asked mid ≡ called 2 (asked old) → NotRefused r
    → IfOk r (λ _. asked new ≡ next_count (asked mid)) → OnStore r (asked new ≡ next_count (asked mid)) → OnMemory r (asked new ≡ asked mid)
    → OnStore r (Rose (faults mid) (faults new)) → ReadsOnce faults asked r old new
whole faults asked (Ok a) old mid new quiet two good one last none rose = one ∙ ap next_count two
whole faults asked (Err (Refused refusal)) old mid new quiet two good one last none rose = absurd good
whole faults asked (Err Store) old mid new quiet two good one last none rose =
    record { before = mid; unfailed = quiet; failed = rose; last = last; earlier = 2; few = lit< tt; came = two }
whole faults asked (Err Memory) old mid new quiet two good one last none rose = inl (none ∙ two)
