use Rattle.std.proofs.Common.{◌≡◌, ◌++◌, drop}
use Rattle.kc_report.specs.Lines.{place_lines}
use Rattle.kc_report.proofs.line.push_places.Given as goal

-- what was added, and what is still to come, are the whole
abbrev pub invariant-loop-place : goal.invariant-loop-place
invariant-loop-place l = l.text.items ++ place_lines (drop l.place-index l.places) ≡ l.fn.text.items ++ place_lines l.places
