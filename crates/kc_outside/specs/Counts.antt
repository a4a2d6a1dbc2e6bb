-- Counts of failures and of calls.
use Rattle.std.specs.Prelude.{ℕ, ◌+◌, ◌-◌, ◌^◌, ◌≤◌, min, Result, Ok, Err}

-- the count after one more, in 64 bits; the last value stays
abbrev pub next_count : ℕ → ℕ
next_count count = min (count + 1) (2 ^ 64 - 1)

-- The count rose in a call: it is greater than before, or it stands at its last value.
abbrev pub Rose : ℕ → ℕ → Type 0
Rose before after = next_count before ≤ after

-- the count of failures after an answer
abbrev pub faults_after : {T E : Type 0} → ℕ → Result T E → ℕ
faults_after faults (Ok value) = faults
faults_after faults (Err error) = next_count faults
