use Rattle.std.proofs.Common.{◌≡◌, drop}
use Rattle.kc_list.specs.Listed.{are_nodes}
use Rattle.kc_list.proofs.listed.are_nodes.Given as goal

abbrev pub invariant-loop-node : goal.invariant-loop-node
invariant-loop-node l = are_nodes l.end (drop l.node-index l.nodes) ≡ are_nodes l.end l.nodes
