use Rattle.std.proofs.Common.{◌≡◌, length, take, map}
use Rattle.kc_report.specs.Copies.{root_lines}
use Rattle.kc_report.proofs.make.report_each.Given as goal

abbrev pub invariant-loop-i : goal.invariant-loop-i
invariant-loop-i l = (l.roots ≡ map (root_lines l.plan_names) (take l.i l.verdicts)) × (length l.roots ≡ l.i)
