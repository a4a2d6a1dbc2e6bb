use Rattle.std.proofs.Common.{◌≡◌, ◌++◌, drop}
use Rattle.kc_report.specs.Copies.{counted}
use Rattle.kc_report.proofs.make.counted.Given as goal

-- what was added, and what is still to come, are the whole
abbrev pub invariant-loop-i : goal.invariant-loop-i
invariant-loop-i l = l.lines ++ counted (drop l.i l.plan_names) (drop l.i l.counts) ≡ counted l.plan_names l.counts
