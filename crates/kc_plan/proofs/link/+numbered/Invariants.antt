use Rattle.std.proofs.Common.{length}
use Rattle.kc_plan.proofs.link.+numbered.Given as goal

abbrev pub decreases-numbered : goal.decreases-numbered
decreases-numbered l = length l.audits.now
