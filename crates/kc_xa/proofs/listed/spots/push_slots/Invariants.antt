use Rattle.std.proofs.Common.{◌≡◌, ◌++◌, ◌-◌, length}
use Rattle.kc_xa.proofs.ListedLemmas.Tracing.{turned_slots}
use Rattle.kc_xa.proofs.listed.spots.push_slots.Given as goal

-- the slots from the last one on have been added
abbrev pub invariant-loop-i : goal.invariant-loop-i
invariant-loop-i l = l.pending.items ≡ l.fn.pending.items ++ turned_slots l.shape.chunk l.node (length l.node.slots - l.i)
