use Rattle.std.proofs.Common.{◌≡◌, ℕ, [], length, map, get_or}
use Rattle.kc_layout.proofs.names.empty_buckets.Given as goal

-- there are so many, and nothing is in them
abbrev pub invariant-loop : goal.invariant-loop
invariant-loop l = record { many : length l.buckets.items ≡ l.counter; empty : (bucket : ℕ) → get_or (map (λ v. v.items) l.buckets.items) bucket [] ≡ [] }
