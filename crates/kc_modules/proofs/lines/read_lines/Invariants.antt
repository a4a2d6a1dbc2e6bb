use Rattle.std.proofs.Common.{◌≡◌, drop}
use Rattle.kc_memory.specs.Stays.{SpaceStays}
use Rattle.kc_modules.proofs.Loops.{LinesLeft}
use Rattle.kc_modules.proofs.lines.read_lines.Given as goal

-- the lines so far, and those of the nodes that are left, are all
abbrev pub invariant-loop-node : goal.invariant-loop-node
invariant-loop-node g l = record {
  left : LinesLeft (g.S.Space.image l.fn.space) l.shape l.nodes l.text.items (drop l.node-index l.nodes);
  stays : SpaceStays g.S.Space.image g.S.Space.files g.S.Space.through g.S.Space.most l.fn.space l.space;
  quiet : g.S.Space.faults l.space ≡ g.S.Space.faults l.fn.space;
}
