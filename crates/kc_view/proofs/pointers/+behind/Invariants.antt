use Rattle.std.proofs.Common.{length}
use Rattle.kc_view.proofs.pointers.+behind.Given as goal

abbrev pub decreases-behind : goal.decreases-behind
decreases-behind g l = length l.offsets.now
