use Rattle.std.proofs.Common.{◌≡◌, drop}
use Rattle.kc_memory.specs.Stays.{SpaceStays}
use Rattle.kc_modules.proofs.Loops.{TypesLeft}
use Rattle.kc_modules.proofs.typed.read_types_of.Given as goal

-- what the nodes give that are left, all give
abbrev pub invariant-loop-node : goal.invariant-loop-node
invariant-loop-node g l = record {
  left : TypesLeft (g.S.Space.image l.fn.space) l.shape l.name l.nodes (drop l.node-index l.nodes);
  stays : SpaceStays g.S.Space.image g.S.Space.files g.S.Space.through g.S.Space.most l.fn.space l.space;
  quiet : g.S.Space.faults l.space ≡ g.S.Space.faults l.fn.space;
}
