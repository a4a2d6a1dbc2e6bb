use Rattle.std.proofs.Common.{◌≡◌, ◌++◌, drop, map}
use Rattle.kc_match.specs.Text.{finding_lines}
use Rattle.kc_match.specs.Views.{finding_view}
use Rattle.kc_match.proofs.text.push_findings.Given as goal

-- what was added, and what is still to come, are the whole
abbrev pub invariant-loop-finding : goal.invariant-loop-finding
invariant-loop-finding l = l.text.items ++ finding_lines (map finding_view (drop l.finding-index l.findings)) ≡ l.fn.text.items ++ finding_lines (map finding_view l.findings)
