use Rattle.std.proofs.Common.{◌≡◌, ◌≤◌, ◌+◌, ◌*◌}
use Rattle.kc_memory.specs.Stays.{SpaceStays}
use Rattle.kc_by_lists.proofs.FreeTests.{Comes}
use Rattle.kc_by_lists.proofs.free.test_free_list.Given as goal

abbrev pub invariant-loop-i : goal.invariant-loop-i
invariant-loop-i g l =
    Comes (g.S.Space.image l.fn.space) l.grid l.fn.first l.claims l.objects l.i l.led
    × SpaceStays g.S.Space.image g.S.Space.files g.S.Space.through g.S.Space.most l.fn.space l.space
    × (g.S.Space.faults l.space ≡ g.S.Space.faults l.fn.space)
    × (l.steps ≤ l.fn.steps + 12 * l.i)
