-- Bytes that are no report.
use Rattle.std.specs.Prelude.{ℕ, List, ⊤}
use Rattle.kc_text.specs.Format.{IsPlace}
use Rattle.kc_report.specs.declared.report.Report.{Report}
use Rattle.kc_report.specs.declared.stops.ReportStop.{ReportStop}
use Rattle.kc_report.specs.declared.stops.ReportStop.TheVariants.{Y1, NoMemory}
use Rattle.kc_report.specs.IsReport.{IsReport, BeginsReport}

-- no report has these bytes as its text, and the place is where their longest front ends that begins some report's
pub record IsNoReport (bytes : List ℕ) (at : ℕ) : Type 0 where
  pub none : (report : Report) → IsReport bytes report → ⊥
  pub place : IsPlace BeginsReport bytes at

abbrev pub IsRefused : ReportStop → List ℕ → Type 0
IsRefused (Y1 at) bytes = IsNoReport bytes at
IsRefused NoMemory bytes = ⊤
