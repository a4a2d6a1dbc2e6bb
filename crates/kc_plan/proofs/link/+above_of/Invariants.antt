use Rattle.std.proofs.Common.{length}
use Rattle.kc_plan.proofs.link.+above_of.Given as goal

abbrev pub decreases-above_of : goal.decreases-above_of
decreases-above_of l = length l.links.now
