use Rattle.std.proofs.Common.{◌≡◌, ◌≤◌, ◌+◌, ◌*◌, drop}
use Rattle.kc_memory.specs.Stays.{SpaceStays}
use Rattle.kc_list.specs.Listed.{node_wants}
use Rattle.kc_list.proofs.ListedLemmas.Meeting.{Left}
use Rattle.kc_list.proofs.listed.meet_nodes.Given as goal

abbrev pub invariant-loop-i : goal.invariant-loop-i
invariant-loop-i g l =
    Left (g.S.Space.image l.fn.space) l.fn.claims (node_wants l.linking l.first l.nodes) l.claims (node_wants l.linking l.before (drop l.i l.nodes))
    × SpaceStays g.S.Space.image g.S.Space.files g.S.Space.through g.S.Space.most l.fn.space l.space
    × (g.S.Space.faults l.space ≡ g.S.Space.faults l.fn.space)
    × (l.steps ≤ l.fn.steps + 12 * l.i)
