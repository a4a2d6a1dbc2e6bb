-- How often a store is called, and that it isn't called again after it failed.
use Rattle.std.specs.Prelude.{◌≡◌, ◌<◌, ◌⊎◌, ℕ, zero, suc, Result, Ok, Err, ⊤}
use Rattle.kc_outside.specs.Counts.{Rose, next_count}
use Rattle.kc_outside.specs.declared.store.Failed.{Failed}
use Rattle.kc_command.specs.declared.halt.Halt.{Halt}
use Rattle.kc_command.specs.declared.halt.Halt.TheVariants.{Refused, Store, Memory}
use Rattle.kc_command.specs.declared.refusal.Refusal.{Refusal}
use Rattle.kc_command.specs.declared.refusal.Refusal.TheVariants as refusals
use Rattle.kc_command.specs.declared.refusal.ReportFault.TheVariants as faults

-- the count of calls after so many more
abbrev pub called : ℕ → ℕ → ℕ
called zero count = count
called (suc n) count = next_count (called n count)

-- A call failed, and it was the last: before it none had failed. It is one of the first so many.
pub record FailedLast {S : Type 0} (most : ℕ) (faults asked : S → ℕ) (old new : S) : Type 0 where
  pub before : S
  pub unfailed : faults before ≡ faults old
  pub failed : Rose (faults before) (faults new)
  pub last : asked new ≡ next_count (asked before)
  pub earlier : ℕ
  pub few : earlier < most
  pub came : asked before ≡ called earlier (asked old)

-- the calls that open a file and tell its size
abbrev pub Opens : {A S : Type 0} → (S → ℕ) → (S → ℕ) → Result A Failed → S → S → Type 0
Opens faults asked (Ok size) old new = asked new ≡ called 2 (asked old)
Opens faults asked (Err failed) old new = FailedLast 2 faults asked old new

-- how often the store was called where a file that is read whole is refused: one that is too long isn't read
abbrev pub refused_calls : Refusal → ℕ
refused_calls (refusals.TooLong slot) = 2
refused_calls (refusals.Report faults.F1) = 2
refused_calls _ = 3

-- The calls that read one file whole: it is opened, its size is asked, and it is read once. Where memory is wanting for its bytes,
-- it isn't read.
abbrev pub ReadsOnce : {A S : Type 0} → (S → ℕ) → (S → ℕ) → Result A Halt → S → S → Type 0
ReadsOnce faults asked (Ok a) old new = asked new ≡ called 3 (asked old)
ReadsOnce faults asked (Err (Refused refusal)) old new = asked new ≡ called (refused_calls refusal) (asked old)
ReadsOnce faults asked (Err Store) old new = FailedLast 3 faults asked old new
ReadsOnce faults asked (Err Memory) old new = (asked new ≡ called 2 (asked old)) ⊎ (asked new ≡ called 3 (asked old))

-- a refusal that comes after the file was read
abbrev pub RefusesRead : {A : Type 0} → Result A Halt → Type 0
RefusesRead (Ok a) = ⊤
RefusesRead (Err (Refused refusal)) = refused_calls refusal ≡ 3
RefusesRead (Err Store) = ⊤
RefusesRead (Err Memory) = ⊤
