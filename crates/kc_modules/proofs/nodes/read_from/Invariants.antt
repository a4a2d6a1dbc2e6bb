use Rattle.std.proofs.Common.{◌≡◌, ◌-◌}
use Rattle.kc_memory.specs.Stays.{SpaceStays}
use Rattle.kc_modules.proofs.Loops.{NodesLeft}
use Rattle.kc_modules.proofs.nodes.read_from.Given as goal

-- the nodes so far, and those from the next on, are all
abbrev pub invariant-loop-i : goal.invariant-loop-i
invariant-loop-i g l = record {
  left : NodesLeft (g.S.Space.image l.fn.space) l.head l.first l.nodes.items (65536 - l.i) l.at;
  stays : SpaceStays g.S.Space.image g.S.Space.files g.S.Space.through g.S.Space.most l.fn.space l.space;
  quiet : g.S.Space.faults l.space ≡ g.S.Space.faults l.fn.space;
}
