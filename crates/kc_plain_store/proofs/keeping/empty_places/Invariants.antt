use Rattle.std.proofs.Common.{ℕ, ◌<◌, take, All}
use Rattle.kc_plain_store.specs.Kept.{IsEmpty}
use Rattle.kc_plain_store.proofs.keeping.empty_places.Given as goal

-- the first places are empty
abbrev pub invariant-loop-place : goal.invariant-loop-place
invariant-loop-place l = All IsEmpty (take l.place-index l.places)
