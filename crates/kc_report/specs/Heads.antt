-- A report of a violation, read up to its places.
use Rattle.std.specs.Prelude.{◌≡◌, ℕ, Bool, List, Result, Ok, Err, IsTrue}
use Rattle.std.specs.Borrow.{Bor}
use Rattle.kc_memory.specs.declared.words.Place.{Place}
use Rattle.kc_text.specs.Reading.{and_then}
use Rattle.kc_text.specs.Compose.{lines}
use Rattle.kc_text.specs.Readers.{is_name}
use Rattle.kc_report.specs.declared.read.Head.{Head}
use Rattle.kc_report.specs.Formats.{Parts, broken_of, end_of, place_format, broken_parts}
use Rattle.kc_report.specs.Report.{BrokenLines, is_stop_at, stop_levels}

-- what stands before the places, and the places
abbrev pub head_parts : Head → List Place → Parts
head_parts h places = (h.audit.now, (h.start, (h.rule, (h.at, (h.expected, (h.stop, places))))))

-- the places are read from the bytes after the head, or the head stops where the report does
abbrev pub HeadGives : Bool → Result (Head × Bor (List ℕ)) (Bor (List ℕ)) → List ℕ → Type 0
HeadGives more (Ok r) bytes = (broken_parts more).read bytes ≡ and_then ((lines (end_of more) place_format).read r.1.now) (λ s. Ok (head_parts r.0 s.0, s.1))
HeadGives more (Err rest) bytes = (broken_parts more).read bytes ≡ Err rest.now

-- the report of a violation of what stands before the places, and of the places
abbrev pub head_broken : Head → List Place → BrokenLines
head_broken h places = broken_of (head_parts h places)

-- its name has its form, and its stop fits its rule
abbrev pub IsHead : Head → Type 0
IsHead h = IsTrue (is_name h.audit.now) × IsTrue (is_stop_at (stop_levels h.rule) h.stop)
