-- The text of a report. Each report has one.
use Rattle.std.specs.Prelude.{ℕ, List, [], ◌++◌, codes, decimal, Option, Some, None}
use Rattle.kc_text.specs.Compose.{texts}
use Rattle.kc_text.specs.Text.{hex}
use Rattle.kc_report.specs.Lines.{rule_at, stop_text, place_lines}
use Rattle.kc_report.specs.Report.{AuditLine, BrokenLines}

abbrev pub audit_line : AuditLine → List ℕ
audit_line l = codes "audit " ++ l.name ++ codes " walks " ++ decimal l.walks ++ codes " elements " ++ decimal l.elements ++ codes "\n"

abbrev pub clean_text : List AuditLine → List ℕ
clean_text ls = codes "clean\n" ++ texts audit_line ls

abbrev pub expected_text : Option ℕ → List ℕ
expected_text None = codes "none"
expected_text (Some n) = hex n

abbrev pub stop_lines : Option (ℕ × ℕ) → List ℕ
stop_lines None = []
stop_lines (Some stop) = stop_text stop.0 stop.1

-- the audit, and where its walk starts
abbrev pub start_lines : BrokenLines → List ℕ
start_lines b = codes "broken\naudit " ++ b.audit ++ (codes "\nstart " ++ hex b.start ++ codes "\n")

-- what should stand there, where reading stopped, and the words that show it
abbrev pub end_lines : BrokenLines → List ℕ
end_lines b = codes "expected " ++ expected_text b.expected ++ codes "\n" ++ stop_lines b.stop ++ place_lines b.places

abbrev pub broken_lines : BrokenLines → List ℕ
broken_lines b = start_lines b ++ rule_at b.rule b.at ++ end_lines b
