-- What reading a part of a report answers, by its format.
use Rattle.std.specs.Prelude.{◌≡◌, ℕ, ◌-◌, List, [], ◌∷◌, ◌++◌, length, Result, Ok, Err, ⊤}
use Rattle.std.specs.Borrow.{Bor}
use Rattle.kc_report.specs.declared.stops.ReadStop.{ReadStop}
use Rattle.kc_report.specs.declared.stops.ReadStop.TheVariants.{At, NoMemory}
use Rattle.kc_report.specs.declared.report.Report.{Report}
use Rattle.kc_report.specs.declared.stops.ReportStop.{ReportStop}
use Rattle.kc_report.specs.declared.stops.ReportStop.TheVariants as stop
use Rattle.kc_report.specs.Formats.{report_format}

-- one value more, and the bytes after its text
abbrev pub AddsOne : {X : Type 0} → Result (X × List ℕ) (List ℕ) → List X → List X → Result (Bor (List ℕ)) ReadStop → Type 0
AddsOne {X} said old new (Ok next) = (x : X) × (said ≡ Ok (x, next.now)) × (new ≡ old ++ x ∷ [])
AddsOne said old new (Err (At stop)) = said ≡ Err stop.now
AddsOne said old new (Err NoMemory) = ⊤

-- the value and the bytes after its text, or the bytes from the one on where they fit no text
abbrev pub ReadsOne : {X : Type 0} → Result (X × List ℕ) (List ℕ) → Result (X × Bor (List ℕ)) ReadStop → Type 0
ReadsOne said (Ok r) = said ≡ Ok (r.0, r.1.now)
ReadsOne said (Err (At stop)) = said ≡ Err stop.now
ReadsOne said (Err NoMemory) = ⊤

-- what reading a whole text comes to: what it is the text of, or the place where reading stopped
abbrev pub placed : {X : Type 0} → List ℕ → Result (X × List ℕ) (List ℕ) → Result X ℕ
placed bytes (Ok read) = Ok read.0
placed bytes (Err rest) = Err (length bytes - length rest)

-- the report that these bytes are the text of, or the place up to which they begin one's
abbrev pub report_in : List ℕ → Result Report ℕ
report_in bytes = placed bytes (report_format.read bytes)

-- reading answers it
abbrev pub ReadsReport : Result Report ℕ → Result Report ReportStop → Type 0
ReadsReport said (Ok report) = said ≡ Ok report
ReadsReport said (Err (stop.Y1 at)) = said ≡ Err at
ReadsReport said (Err stop.NoMemory) = ⊤
