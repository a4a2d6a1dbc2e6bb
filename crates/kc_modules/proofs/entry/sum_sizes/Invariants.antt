use Rattle.std.proofs.Common.{◌≡◌, ◌-◌}
use Rattle.kc_memory.specs.Stays.{SpaceStays}
use Rattle.kc_modules.proofs.Loops.{SizesLeft}
use Rattle.kc_modules.proofs.entry.sum_sizes.Given as goal

-- the sum so far, and the sizes from the next on, give the whole
abbrev pub invariant-loop-i : goal.invariant-loop-i
invariant-loop-i g l = record {
  left : SizesLeft (g.S.Space.image l.fn.space) l.stride l.count l.first (l.count - l.i) l.at l.sum;
  stays : SpaceStays g.S.Space.image g.S.Space.files g.S.Space.through g.S.Space.most l.fn.space l.space;
  quiet : g.S.Space.faults l.space ≡ g.S.Space.faults l.fn.space;
}
