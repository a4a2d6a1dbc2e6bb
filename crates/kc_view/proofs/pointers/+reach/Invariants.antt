use Rattle.std.proofs.Common.{length}
use Rattle.kc_view.proofs.pointers.+reach.Given as goal

abbrev pub decreases-reach : goal.decreases-reach
decreases-reach g l = length l.offsets.now
