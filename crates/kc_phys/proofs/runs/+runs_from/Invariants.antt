use Rattle.std.proofs.Common.{length}
use Rattle.kc_phys.proofs.runs.+runs_from.Given as goal

-- a half is shorter
abbrev pub decreases-runs_from : goal.decreases-runs_from
decreases-runs_from l = length l.segments.now
