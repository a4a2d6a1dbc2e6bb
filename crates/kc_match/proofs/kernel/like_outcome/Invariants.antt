use Rattle.std.proofs.Common.{◌≡◌}
use Rattle.kc_match.specs.Views.{measured}
use Rattle.kc_match.proofs.TypesOfNames.{so_far}
use Rattle.kc_match.proofs.kernel.like_outcome.Given as goal

-- what comes of it beside the types so far
abbrev pub invariant-loop-index : goal.invariant-loop-index
invariant-loop-index l = l.outcome ≡ so_far l.types l.name l.first (measured l.types l.measure) l.stated l.index
