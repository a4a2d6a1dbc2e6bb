-- That a sink which failed isn't called again.
use Rattle.std.specs.Prelude.{◌≡◌, ◌⊎◌, ℕ, List, Option}
use Rattle.kc_outside.specs.Counts.{Rose, next_count}

-- A sink failed, and it wasn't called again: before one call, its last, in which it failed, it had taken what it has taken now,
-- and none of its calls had failed.
pub record FailedLast {K : Type 0} (taken : K → Option (List ℕ)) (faults asked : K → ℕ) (old new : K) : Type 0 where
  pub before : K
  pub unfailed : faults before ≡ faults old
  pub failed : Rose (faults before) (faults new)
  pub took : taken new ≡ taken before
  pub called : asked new ≡ next_count (asked before)

-- a sink is called until it fails, and no more
abbrev pub StopsAtFailure : {K : Type 0} → (K → Option (List ℕ)) → (K → ℕ) → (K → ℕ) → K → K → Type 0
StopsAtFailure taken faults asked old new = (faults new ≡ faults old) ⊎ FailedLast taken faults asked old new
