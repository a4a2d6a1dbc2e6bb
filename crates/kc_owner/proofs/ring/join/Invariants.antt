use Rattle.std.proofs.Common.{◌≡◌, ◌++◌, drop}
use Rattle.kc_owner.proofs.ring.join.Given as goal

-- what was added, and what is still to come, are the whole
abbrev pub invariant-loop-node : goal.invariant-loop-node
invariant-loop-node l = l.nodes ++ drop l.node-index l.more ≡ l.fn.nodes ++ l.more
