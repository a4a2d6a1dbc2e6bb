-- The formats of a report's lines. In a `do` block each line is a text, or a value with its text; the last one is a value's.
use Rattle.std.specs.Prelude.{◌≡◌, ℕ, zero, suc, ◌⊎◌, Bool, true, false, nat_lt, List, [], ◌∷◌, length, codes, All, Option, Some, None, Result, Ok, Err, IsTrue}
use Rattle.std.proofs.Common.{inl, inr}
use Rattle.kc_memory.specs.declared.rule.Rule.{Rule}
use Rattle.kc_memory.specs.declared.words.Origin.{Origin}
use Rattle.kc_memory.specs.declared.words.Origin.TheVariants.{File, Tail}
use Rattle.kc_memory.specs.declared.words.Place.{Place}
use Rattle.kc_rules.specs.Codes.{rule_format}
use Rattle.kc_report.specs.declared.report.Report.{Report}
use Rattle.kc_report.specs.declared.report.Report.TheVariants as report
use Rattle.kc_report.specs.declared.report.RootResult.{RootResult}
use Rattle.kc_report.specs.declared.report.RootResult.TheVariants as root
use Rattle.kc_text.specs.Format.{Format}
use Rattle.kc_text.specs.Text.{hex}
use Rattle.kc_text.specs.Reading.{and_then}
use Rattle.kc_text.specs.Readers.{literal, name_and, decimal_and, decimal_below, hex16, digit_from}
use Rattle.kc_text.specs.Compose.{both as ◌>>=◌, after as ◌>>◌, mapped, nothing, either, after, followed, lines, texts}
use Rattle.kc_report.specs.IsReport.{Keeps, report_text}
use Rattle.kc_report.specs.Lines.{address_text, origin_text, place_line}
use Rattle.kc_report.specs.Report.{AuditLine, BrokenLines, IsNumber, IsOrigin, IsStopNumber, IsLine, IsShown, IsBroken, stop_levels, is_stop_at}
use Rattle.kc_report.specs.ReportText.{audit_line, expected_text, stop_lines, broken_lines}
use Rattle.kc_report.specs.Roots.{RootLines, KeepsResult, IsRoot, IsEach, result_text, root_text, each_text}

abbrev pub line_of : List ℕ × (ℕ × ℕ) → AuditLine
line_of (name, (walks, elements)) = record { name = name; walks = walks; elements = elements }

abbrev pub line_parts : Format (List ℕ × (ℕ × ℕ))
line_parts = do
  codes "audit "
  name ← name_and 32
  codes "walks "
  walks ← decimal_and 32
  codes "elements "
  decimal_and 10

abbrev pub line_format : Format AuditLine
line_format = mapped line_of IsLine audit_line line_parts

-- a number, or a word that stands for none
abbrev pub number_or_none : Unit {0} ⊎ ℕ → Option ℕ
number_or_none (inl u) = None
number_or_none (inr n) = Some n

abbrev pub read_number : List ℕ → List ℕ → Result (Option ℕ × List ℕ) (List ℕ)
read_number none bytes = and_then ((either (literal none) hex16).read bytes) (λ r. Ok (number_or_none r.0, r.1))

abbrev pub address_format : Format (Option ℕ)
address_format = mapped number_or_none IsNumber address_text (either (literal (codes "-")) hex16)

abbrev pub expected_format : Format (Option ℕ)
expected_format = mapped number_or_none IsNumber expected_text (either (literal (codes "none")) hex16)

-- a file offset, or that there is none
abbrev pub offset_text : Option ℕ → List ℕ
offset_text None = codes "tail"
offset_text (Some off) = hex off

abbrev pub offset_format : Format (Option ℕ)
offset_format = mapped number_or_none IsNumber offset_text (either (literal (codes "tail")) hex16)

abbrev pub origin_of : Option ℕ → Origin
origin_of None = Tail
origin_of (Some off) = File off

abbrev pub origin_format : Format Origin
origin_format = mapped origin_of IsOrigin origin_text offset_format

abbrev pub place_of : Option ℕ × (ℕ × (Origin × ℕ)) → Place
place_of (va, (pa, (off, value))) = record { va = va; pa = pa; off = off; value = value }

abbrev pub place_parts : Format (Option ℕ × (ℕ × (Origin × ℕ)))
place_parts = do
  codes "place "
  va ← address_format
  codes " "
  pa ← hex16
  codes " "
  off ← origin_format
  codes " "
  followed hex16 (codes "\n")

abbrev pub place_format : Format Place
place_format = mapped place_of IsShown place_line place_parts

abbrev pub stop_parts : ℕ × ℕ → Format (ℕ × ℕ)
stop_parts levels = do
  codes "stop "
  level ← digit_from levels.0 levels.1
  codes " "
  followed hex16 (codes "\n")

-- a stop of one of these levels, or where there are none nothing
abbrev pub stop_format : Option (ℕ × ℕ) → Format (Option (ℕ × ℕ))
stop_format None = nothing None
stop_format (Some levels) = mapped (λ stop. Some stop) (λ stop. IsTrue (is_stop_at (Some levels) stop) × IsStopNumber stop) stop_lines (stop_parts levels)

-- Lines end where the bytes do or, where another root follows, before its line. No other line begins with this byte.
abbrev pub end_of : Bool → Option ℕ
end_of false = None
end_of true = Some 114

abbrev pub Parts : Type 0
Parts = List ℕ × (ℕ × (Rule × (ℕ × (Option ℕ × (Option (ℕ × ℕ) × List Place)))))

abbrev pub broken_of : Parts → BrokenLines
broken_of (audit, (start, (rule, (at, (expected, (stop, places)))))) = record {
  audit = audit;
  start = start;
  rule = rule;
  at = at;
  expected = expected;
  stop = stop;
  places = places;
}

abbrev pub broken_parts : Bool → Format Parts
broken_parts more = do
  codes "broken\naudit "
  audit ← name_and 10
  codes "start "
  start ← followed hex16 (codes "\n")
  codes "rule "
  rule ← followed rule_format (codes "\n")
  codes "at "
  at ← followed hex16 (codes "\n")
  codes "expected "
  expected ← followed expected_format (codes "\n")
  stop ← stop_format (stop_levels rule)
  lines (end_of more) place_format

abbrev pub broken_format : Bool → Format BrokenLines
broken_format more = mapped broken_of IsBroken broken_lines (broken_parts more)

abbrev pub clean_format : Bool → Format (List AuditLine)
clean_format more = after (codes "clean\n") (lines (end_of more) line_format)

-- what the audits came to, either way
abbrev pub result_of : List AuditLine ⊎ BrokenLines → RootResult
result_of (inl lines) = root.Clean lines
result_of (inr broken) = root.Broken broken

abbrev pub result_format : Bool → Format RootResult
result_format more = mapped result_of KeepsResult result_text (either (clean_format more) (broken_format more))

abbrev pub root_of : List ℕ × RootResult → RootLines
root_of (name, verdict) = record { name = name; verdict = verdict }

abbrev pub root_parts : Bool → Format (List ℕ × RootResult)
root_parts more = do
  codes "root "
  name ← name_and 32
  result_format more

abbrev pub root_format : Bool → Format RootLines
root_format more = mapped root_of IsRoot root_text (root_parts more)

-- so many roots, to the end of the bytes
abbrev pub read_end : List ℕ → Result (List RootLines × List ℕ) (List ℕ)
read_end [] = Ok ([], [])
read_end (c ∷ cs) = Err (c ∷ cs)

unfoldable pub read_roots : ℕ → List ℕ → Result (List RootLines × List ℕ) (List ℕ)
read_roots zero bytes = read_end bytes
read_roots (suc left) bytes =
    and_then ((root_format (nat_lt 0 left)).read bytes) (λ r. and_then (read_roots left r.1) (λ s. Ok (r.0 ∷ s.0, s.1)))

abbrev pub roots_format : ℕ → Format (List RootLines)
roots_format many = record {
  Good = λ roots. (length roots ≡ many) × All IsRoot roots;
  spell = texts root_text;
  read = read_roots many;
}

abbrev pub each_format : Format (List RootLines)
each_format = mapped (λ p. p.1) IsEach each_text do
  codes "roots "
  many ← decimal_below 257 10
  roots_format many

-- a report of each of its forms
abbrev pub report_from : RootResult ⊎ List RootLines → Report
report_from (inl (root.Clean lines)) = report.Clean lines
report_from (inl (root.Broken broken)) = report.Broken broken
report_from (inr roots) = report.Each roots

abbrev pub report_format : Format Report
report_format = mapped report_from Keeps report_text (either (result_format false) each_format)
