use Rattle.std.proofs.Common.{◌≡◌, ◌++◌}
use Rattle.kc_gen.specs.Array.{child, node_bytes, nodes_from}
use Rattle.kc_gen.specs.Bytes.{each}
use Rattle.kc_gen.proofs.array.+push_nodes.Given as goal

abbrev pub decreases-push_nodes : goal.decreases-push_nodes
decreases-push_nodes l = l.level

-- the node, and what is below its slots so far
abbrev pub invariant-loop-i : goal.invariant-loop-i
invariant-loop-i l =
    l.bytes.items ≡ l.fn.bytes.items ++ (node_bytes l.n l.level l.node ++ each l.i (λ i. nodes_from l.n l.below (child l.n l.below l.node i)))
