-- What is looked at.
use Rattle.std.specs.Prelude.{ℕ}
use Rattle.kc_found.specs.declared.asked.Asked.{Asked}

-- no audit asks, and what is looked at is named as the start
abbrev pub looked_at : ℕ → Asked
looked_at at = record { audit = 0; start = at }
