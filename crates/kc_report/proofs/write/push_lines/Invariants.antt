use Rattle.std.proofs.Common.{◌≡◌, ◌++◌, drop, take, All}
use Rattle.kc_text.specs.Compose.{texts}
use Rattle.kc_report.specs.Report.{IsLine}
use Rattle.kc_report.specs.ReportText.{audit_line}
use Rattle.kc_report.proofs.write.push_lines.Given as goal

-- what was added, and what is still to come, are the whole
abbrev pub invariant-loop-i : goal.invariant-loop-i
invariant-loop-i l = (l.text.items ++ texts audit_line (drop l.i l.lines) ≡ l.fn.text.items ++ texts audit_line l.lines) × All IsLine (take l.i l.lines)
