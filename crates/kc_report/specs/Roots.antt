-- Reports with one verdict for each root audit, as plain data, and what one keeps.
use Rattle.std.specs.Prelude.{ℕ, ◌≤◌, ◌++◌, List, codes, decimal, length, All, IsTrue}
use Rattle.kc_text.specs.Compose.{texts}
use Rattle.kc_text.specs.Readers.{is_name}
use Rattle.kc_report.specs.declared.report.RootResult.{RootResult}
use Rattle.kc_report.specs.declared.report.RootResult.TheVariants.{Clean, Broken}
use Rattle.kc_report.specs.Report.{IsLine, IsBroken}
use Rattle.kc_report.specs.ReportText.{clean_text, broken_lines}

-- a root audit
pub record RootLines : Type 0 where
  -- its name
  pub name : List ℕ
  -- what the audits under it came to
  pub verdict : RootResult

abbrev pub KeepsResult : RootResult → Type 0
KeepsResult (Clean lines) = All IsLine lines
KeepsResult (Broken broken) = IsBroken broken

pub record IsRoot (root : RootLines) : Type 0 where
  pub name : IsTrue (is_name root.name)
  pub verdict : KeepsResult root.verdict

-- at most 256 roots
pub record IsEach (roots : List RootLines) : Type 0 where
  pub few : length roots ≤ 256
  pub each : All IsRoot roots

-- the text of a clean report, or of one of a violation
abbrev pub result_text : RootResult → List ℕ
result_text (Clean lines) = clean_text lines
result_text (Broken broken) = broken_lines broken

-- That text stands after the root's name: its first line, which says `clean` or `broken`, ends the line of the root.
abbrev pub root_text : RootLines → List ℕ
root_text root = codes "root " ++ root.name ++ codes " " ++ result_text root.verdict

-- how many roots there are, and each of them
abbrev pub each_text : List RootLines → List ℕ
each_text roots = codes "roots " ++ decimal (length roots) ++ codes "\n" ++ texts root_text roots
