use Rattle.std.proofs.Common.{◌≡◌, map}
use Rattle.kc_match.specs.Findings.{findings}
use Rattle.kc_match.specs.Views.{finding_view, kernel_view}
use Rattle.kc_match.proofs.finding.findings.Given as goal

-- what is found of the lines so far
abbrev pub invariant-loop-line : goal.invariant-loop-line
invariant-loop-line l = map finding_view l.found.items ≡ findings (kernel_view l.kernel) (map (λ line. line.now) l.yielded)
