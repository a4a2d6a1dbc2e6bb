use Rattle.std.proofs.Common.{◌≡◌, ◌++◌, drop, take, All}
use Rattle.kc_report.specs.Lines.{place_lines}
use Rattle.kc_report.specs.Report.{IsShown}
use Rattle.kc_report.proofs.write.push_list.Given as goal

-- what was added, and what is still to come, are the whole
abbrev pub invariant-loop-i : goal.invariant-loop-i
invariant-loop-i l = (l.text.items ++ place_lines (drop l.i l.places) ≡ l.fn.text.items ++ place_lines l.places) × All IsShown (take l.i l.places)
