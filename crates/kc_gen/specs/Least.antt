-- The least number that passes a test.
use Rattle.std.specs.Prelude.{ℕ, zero, suc, ◌+◌, Bool, if◌then◌else◌}

-- the least number from one on that passes, among so many; and the one after these where none does
abbrev pub least : (ℕ → Bool) → ℕ → ℕ → ℕ
least passes zero k = k
least passes (suc more) k = if passes k then k else least passes more (k + 1)
