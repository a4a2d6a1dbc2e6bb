use Rattle.std.proofs.Common.{◌≡◌, take}
use Rattle.kc_run.specs.Tally.{counts_at}
use Rattle.kc_run.proofs.each.counts_at.Given as goal

-- the counts so far
abbrev pub invariant-loop-i : goal.invariant-loop-i
invariant-loop-i l = l.some ≡ counts_at l.counts (take l.i l.audits)
