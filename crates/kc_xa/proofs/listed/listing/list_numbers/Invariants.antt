use Rattle.std.proofs.Common.{◌≡◌}
use Rattle.std.specs.List.{AllByRecursion}
use Rattle.kc_memory.specs.Stays.{SpaceStays}
use Rattle.kc_xa.specs.Listed.Falling.{IsSound, weights}
use Rattle.kc_xa.proofs.ListedLemmas.Tracing.{After, Writes}
use Rattle.kc_xa.proofs.listed.listing.list_numbers.Given as goal

abbrev pub invariant-loop-spot : goal.invariant-loop-spot
invariant-loop-spot g l =
    Writes (g.S.Space.image l.fn.space) l.pass.shape l.pass.asked (After l.pass.shape l.pass.asked l.fn.claims l.fn.pending.items) l.claims l.pending.items l.numbers
    × SpaceStays g.S.Space.image g.S.Space.files g.S.Space.through g.S.Space.most l.fn.space l.space
    × (g.S.Space.faults l.space ≡ g.S.Space.faults l.fn.space)
    × AllByRecursion (IsSound l.pass.shape.chunk) l.pending.items

-- what is left weighs less
abbrev pub decreases-loop-spot : goal.decreases-loop-spot
decreases-loop-spot g l = weights l.pending.items
