use Rattle.std.proofs.Common.{◌≡◌, ◌≤◌, ◌+◌, ◌*◌, length}
use Rattle.kc_memory.specs.Stays.{SpaceStays}
use Rattle.kc_rb.proofs.ListedLemmas.Collecting.{Collects}
use Rattle.kc_rb.proofs.listed.gather.collect.Given as goal

abbrev pub invariant-loop-i : goal.invariant-loop-i
invariant-loop-i g l =
    Collects (g.S.Space.image l.fn.space) l.shape l.fn.root l.numbers l.pending.items
    × SpaceStays g.S.Space.image g.S.Space.files g.S.Space.through g.S.Space.most l.fn.space l.space
    × (g.S.Space.faults l.space ≡ g.S.Space.faults l.fn.space)
    × (length l.numbers ≡ l.i)
