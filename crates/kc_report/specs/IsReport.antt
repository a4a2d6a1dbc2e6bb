-- The grammar of reports.
use Rattle.std.specs.Prelude.{◌≡◌, List, ℕ, ◌++◌, All}
use Rattle.kc_report.specs.declared.report.Report.{Report}
use Rattle.kc_report.specs.declared.report.Report.TheVariants.{Clean, Broken, Each}
use Rattle.kc_report.specs.Report.{IsLine, IsBroken}
use Rattle.kc_report.specs.ReportText.{clean_text, broken_lines}
use Rattle.kc_report.specs.Roots.{IsEach, each_text}

-- the text of a report
abbrev pub report_text : Report → List ℕ
report_text (Clean lines) = clean_text lines
report_text (Broken broken) = broken_lines broken
report_text (Each roots) = each_text roots

-- what a report keeps: its numbers fit, its names have their form, its stops fit their rules, and its roots are few
abbrev pub Keeps : Report → Type 0
Keeps (Clean lines) = All IsLine lines
Keeps (Broken broken) = IsBroken broken
Keeps (Each roots) = IsEach roots

-- these bytes are the text of a report
pub record IsReport (bytes : List ℕ) (report : Report) : Type 0 where
  pub keeps : Keeps report
  pub spelled : bytes ≡ report_text report

-- these bytes begin the text of some report
abbrev pub BeginsReport : List ℕ → Type 0
BeginsReport front = (report : Report) × (tail : List ℕ) × IsReport (front ++ tail) report
