use Rattle.std.proofs.Common.{◌≡◌, ◌≤◌, ◌+◌, ◌*◌, drop}
use Rattle.std.specs.List.{AllByRecursion}
use Rattle.kc_memory.specs.Stays.{SpaceStays}
use Rattle.kc_xa.specs.Listed.Falling.{IsSound}
use Rattle.kc_xa.proofs.ListedLemmas.Gathering.{Gathers, Whole}
use Rattle.kc_xa.proofs.ListedLemmas.Tracing.{Paced, Tested}
use Rattle.kc_xa.proofs.listed.numbers.test_numbers.Given as goal

abbrev pub invariant-loop-i : goal.invariant-loop-i
invariant-loop-i g l =
    Paced (g.S.Space.image l.fn.space) l.pass.shape l.pass.asked (Tested l.pass.shape l.pass.asked l.fn.claims l.fn.pending.items l.numbers) l.claims l.pending.items (drop l.i l.numbers)
    × SpaceStays g.S.Space.image g.S.Space.files g.S.Space.through g.S.Space.most l.fn.space l.space
    × (g.S.Space.faults l.space ≡ g.S.Space.faults l.fn.space)
    × (l.steps ≤ l.fn.steps + 420 * l.i)
    × AllByRecursion (IsSound l.pass.shape.chunk) l.pending.items
    × Gathers (g.S.Space.image l.fn.space) l.pass.shape l.pass.asked (Whole l.pass.shape l.pass.asked l.fn.pending.items l.numbers) l.pending.items (drop l.i l.numbers) l.items
