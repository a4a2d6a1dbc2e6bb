use Rattle.std.proofs.Common.{◌≡◌, take}
use Rattle.kc_found.proofs.items.Items.of_slice.Given as goal

-- the items so far
abbrev pub invariant-loop-item : goal.invariant-loop-item
invariant-loop-item g l = l.list ≡ take l.item-index l.slice
