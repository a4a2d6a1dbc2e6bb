-- The report of a verdict.
use Rattle.std.specs.Prelude.{◌≡◌, ℕ, ◌<◌, ◌≤◌, List, [], ◌∷◌, length, map, All, slice_get, Option, Some, None, unwrap_or, if◌then◌else◌}
use Rattle.kc_memory.specs.declared.rule.Rule.{Rule}
use Rattle.kc_memory.specs.Stopped.{Stopped}
use Rattle.kc_found.specs.declared.verdict.AuditCount.{AuditCount}
use Rattle.kc_found.specs.declared.verdict.RootVerdict.{RootVerdict}
use Rattle.kc_found.specs.declared.verdict.Verdict.{Verdict}
use Rattle.kc_found.specs.declared.verdict.Verdict.TheVariants as verdict
use Rattle.kc_found.specs.Violations.{Violation}
use Rattle.kc_report.specs.declared.report.Report.{Report}
use Rattle.kc_report.specs.declared.report.Report.TheVariants as report
use Rattle.kc_report.specs.declared.report.RootResult.{RootResult}
use Rattle.kc_report.specs.declared.report.RootResult.TheVariants as root
use Rattle.kc_report.specs.Lines.{tells_stop}
use Rattle.kc_report.specs.Report.{AuditLine, BrokenLines}
use Rattle.kc_report.specs.Roots.{RootLines}

-- each audit with its counts
abbrev pub counted : List (List ℕ) → List AuditCount → List AuditLine
counted [] counts = []
counted (name ∷ names) [] = []
counted (name ∷ names) (count ∷ counts) = record { name = name; walks = count.walks; elements = count.elements } ∷ counted names counts

-- the level and the physical address of a stop, for M3 to M6 alone
abbrev pub told_stop : Rule → Option Stopped → Option (ℕ × ℕ)
told_stop rule None = None
told_stop rule (Some s) = if tells_stop rule then Some (s.level, s.pa) else None

-- the name of the audit with a number
abbrev pub name_of : List (List ℕ) → ℕ → List ℕ
name_of names audit = unwrap_or (slice_get names audit) []

abbrev pub broken_report : List (List ℕ) → Violation → BrokenLines
broken_report names v = record {
  audit = name_of names v.audit;
  start = v.start;
  rule = v.rule;
  at = v.at;
  expected = v.expected;
  stop = told_stop v.rule v.stop;
  places = v.places;
}

abbrev pub report_of : List (List ℕ) → Verdict → Report
report_of names (verdict.Clean counts) = report.Clean (counted names counts)
report_of names (verdict.Broken violation) = report.Broken (broken_report names violation)

-- a violation names an audit of the plan, and there is one count for each audit
abbrev pub IsOfPlan : List (List ℕ) → Verdict → Type 0
IsOfPlan names (verdict.Clean counts) = length counts ≡ length names
IsOfPlan names (verdict.Broken violation) = violation.audit < length names

-- the names of the audits with these numbers
abbrev pub names_of : List (List ℕ) → List ℕ → List (List ℕ)
names_of names audits = map (name_of names) audits

abbrev pub root_result : List (List ℕ) → List ℕ → Verdict → RootResult
root_result names audits (verdict.Clean counts) = root.Clean (counted (names_of names audits) counts)
root_result names audits (verdict.Broken violation) = root.Broken (broken_report names violation)

-- a root, with the audits that it reaches
abbrev pub root_lines : List (List ℕ) → RootVerdict → RootLines
root_lines names r = record { name = name_of names r.root; verdict = root_result names r.audits r.verdict }

abbrev pub report_each : List (List ℕ) → List RootVerdict → Report
report_each names verdicts = report.Each (map (root_lines names) verdicts)

-- a violation names an audit of the plan, and there is one count for each of these audits
abbrev pub IsOfAudits : List (List ℕ) → List ℕ → Verdict → Type 0
IsOfAudits names audits (verdict.Clean counts) = length counts ≡ length audits
IsOfAudits names audits (verdict.Broken violation) = violation.audit < length names

-- the numbers are those of audits of the plan
pub record IsOfRoot (names : List (List ℕ)) (r : RootVerdict) : Type 0 where
  pub root : r.root < length names
  pub audits : All (λ audit. audit < length names) r.audits
  pub verdict : IsOfAudits names r.audits r.verdict

pub record AreOfPlan (names : List (List ℕ)) (verdicts : List RootVerdict) : Type 0 where
  pub few : length verdicts ≤ 256
  pub roots : All (IsOfRoot names) verdicts

-- the line of an audit: its name and its counts
pub record IsCounted (names : List (List ℕ)) (counts : List AuditCount) (i : ℕ) (line : AuditLine) : Type 0 where
  pub name : List ℕ
  pub count : AuditCount
  pub named : slice_get names i ≡ Some name
  pub counted : slice_get counts i ≡ Some count
  pub same : line ≡ record { name = name; walks = count.walks; elements = count.elements }
