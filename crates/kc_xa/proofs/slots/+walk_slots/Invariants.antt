use Rattle.std.proofs.Common.{◌≡◌, ◌≤◌, length}
use Rattle.kc_memory.specs.Stays.{SpaceStays}
use Rattle.kc_xa.specs.Steps.{Pays}
use Rattle.kc_xa.proofs.Going.{Goes}
use Rattle.kc_xa.proofs.slots.+walk_slots.Given as goal

abbrev pub invariant-loop-i : goal.invariant-loop-i
invariant-loop-i g l =
    Goes (g.S.Space.image l.fn.space) l.pass.shape l.pass.asked l.node l.i l.fn.claims l.claims l.fn.walked l.walked
    × SpaceStays g.S.Space.image g.S.Space.files g.S.Space.through g.S.Space.most l.fn.space l.space
    × (g.S.Space.faults l.space ≡ g.S.Space.faults l.fn.space)
    × (length l.fn.claims ≤ length l.claims)
    × Pays (g.S.Space.most l.fn.space) l.fn.claims l.claims l.fn.steps l.steps

abbrev pub decreases-walk_slots : goal.decreases-walk_slots
decreases-walk_slots g l = l.node.now.shift
