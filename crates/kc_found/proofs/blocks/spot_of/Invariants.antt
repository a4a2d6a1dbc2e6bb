use Rattle.std.proofs.Common.{ℕ, ◌<◌, ◌≤◌, ◌≢◌}
use Rattle.kc_found.specs.Blocks.{none, number_at}
use Rattle.kc_found.proofs.blocks.spot_of.Given as goal

abbrev pub invariant-loop-place : goal.invariant-loop-place
invariant-loop-place l = (i : ℕ) → l.first ≤ i → i < l.place → (number_at l.blocks i ≢ l.number) × (number_at l.blocks i ≢ none)
