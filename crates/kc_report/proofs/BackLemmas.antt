-- A loop that reads line by line, and what its end says of the bytes.
use Rattle.std.proofs.Common.{◌≡◌, ℕ, suc, ◌+◌, ◌-◌, ◌<◌, ◌≤◌, Bool, true, false, ltb, List, [], ◌∷◌, ◌++◌, length, take, codes, IsTrue, Option, Result, Ok, Err, lit<, lit≤, refl, sym, ap, ◌∙◌, subst, arith, append_assoc}
use Rattle.std.specs.Borrow.{Bor}
use Rattle.std.proofs.lemmas.List.{append-nil, length-append}
use Rattle.kc_memory.specs.declared.words.Place.{Place}
use Rattle.kc_text.specs.Format.{Anything, Format, IsFormat, Begins}
use Rattle.kc_text.specs.Readers.{decimal_below, is_name, name_and, read_literal}
use Rattle.kc_text.specs.Reading.{and_then}
use Rattle.kc_text.specs.Compose.{Goes, after, both, ends, lines}
use Rattle.kc_laws.specs.Formats.{ok_is, after-law, below-law, name-law, goes-more, goes-smaller, goes-stop, goes-end, stop-place, stop-none}
use Rattle.kc_report.specs.declared.read.Head.{Head}
use Rattle.kc_report.specs.declared.report.Report.{Report}
use Rattle.kc_report.specs.declared.report.RootResult.{RootResult}
use Rattle.kc_report.specs.declared.stops.ReadStop.{ReadStop}
use Rattle.kc_report.specs.declared.stops.ReadStop.TheVariants.{At, NoMemory}
use Rattle.kc_report.specs.Faults.{IsNoReport}
use Rattle.kc_report.specs.Formats.{Parts, broken_of, broken_format, broken_parts, end_of, place_format, read_roots, report_format, result_format, root_format, root_of, roots_format}
use Rattle.kc_report.specs.Heads.{head_parts, head_broken, IsHead}
use Rattle.kc_report.specs.IsReport.{IsReport, BeginsReport}
use Rattle.kc_report.specs.Reads.{AddsOne, ReadsOne}
use Rattle.kc_report.specs.Report.{BrokenLines}
use Rattle.kc_report.specs.Roots.{RootLines}
use Rattle.kc_report.proofs.FormatLaws.{broken-law, report-law, roots-none, roots-step}

module _ {X : Type 0} (end : Option ℕ) (f : Format X) (F : IsFormat f) (some : (x : X) → f.Good x → 1 ≤ length (f.spell x))
    (on : (x : X) (more : List ℕ) → f.Good x → ends end (f.spell x ++ more) ≡ false) where
  pub more_reads : (bytes : List ℕ) (done new : List X) (rest : List ℕ) (next : Bor (List ℕ)) → Goes end f bytes done rest → ends end rest ≡ false
      → AddsOne (f.read rest) done new (Ok next) → Goes end f bytes new next.now
  more_reads bytes done new rest next goes long adds =
      subst (λ (l : List X). Goes end f bytes l next.now) (sym adds.2) (goes-more end f F some on bytes done rest next.now adds.0 goes long adds.1)

  pub reads_less : (done new : List X) (rest : List ℕ) (next : Bor (List ℕ)) → AddsOne (f.read rest) done new (Ok next) → length next.now < length rest
  reads_less done new rest next adds = goes-smaller end f F some on rest next.now adds.0 adds.1

  pub stop_reads : (bytes : List ℕ) (done new : List X) (rest : List ℕ) (stop : ReadStop) → Goes end f bytes done rest → ends end rest ≡ false
      → AddsOne (f.read rest) done new (Err stop) → ReadsOne {X = List X} ((lines end f).read bytes) (Err stop)
  stop_reads bytes done new rest (At s) goes long adds = goes-stop end f F some on bytes done rest s.now goes long adds
  stop_reads bytes done new rest NoMemory goes long adds = tt

  pub end_reads : (bytes : List ℕ) (done : List X) (rest : List ℕ) → Goes end f bytes done rest → ends end rest ≡ true → (lines end f).read bytes ≡ Ok (done, rest)
  end_reads bytes done rest goes none = goes-end end f F some on bytes done rest goes none

-- what was read before the places has a name and a stop of their forms
pub head_good : (more : Bool) (h : Head) (bytes rest after : List ℕ) (places : List Place)
    → (broken_parts more).read bytes ≡ and_then ((lines (end_of more) place_format).read rest) (λ s. Ok (head_parts h s.0, s.1))
    → (lines (end_of more) place_format).read rest ≡ Ok (places, after) → IsHead h
head_good more h bytes rest after places said read =
    let parts = said ∙ ap (λ (r : Result (List Place × List ℕ) (List ℕ)). and_then {B = Parts × List ℕ} r (λ s. Ok (head_parts h s.0, s.1))) read in
    let whole = ap (λ (r : Result (Parts × List ℕ) (List ℕ)). and_then {B = BrokenLines × List ℕ} r (λ r. Ok (broken_of r.0, r.1))) parts in
    let good = ((broken-law more).takes bytes after (head_broken h places) whole).0 in
    (good.audit, good.stop)

pub head_stops : (more : Bool) (bytes rest : List ℕ) → (broken_parts more).read bytes ≡ Err rest → (broken_format more).read bytes ≡ Err rest
head_stops more bytes rest said = ap (λ (r : Result (Parts × List ℕ) (List ℕ)). and_then {B = BrokenLines × List ℕ} r (λ r. Ok (broken_of r.0, r.1))) said

-- the name of a root, and what stands after it
abbrev root_name : Format (List ℕ)
root_name = after (codes "root ") (name_and 32)

pub root_named : (bytes rest name : List ℕ) → root_name.read bytes ≡ Ok (name, rest) → IsTrue (is_name name)
root_named bytes rest name said = ((after-law Anything (codes "root ") (name_and 32) (name-law 32 refl) (97 ∷ [], refl)).takes bytes rest name said).0

module _ (more : Bool) (name rest : List ℕ) where
  abbrev by_name : Result (RootLines × List ℕ) (List ℕ)
  by_name = and_then ((result_format more).read rest) (λ r. Ok (record { name = name; verdict = r.0 }, r.1))

  verdict_same : (s : Result (RootResult × List ℕ) (List ℕ)) → and_then {B = RootLines × List ℕ} (and_then {B = (List ℕ × RootResult) × List ℕ} s (λ s. Ok ((name, s.0), s.1))) (λ r. Ok (root_of r.0, r.1))
      ≡ and_then s (λ r. Ok (record { name = name; verdict = r.0 }, r.1))
  verdict_same (Ok t) = refl
  verdict_same (Err e) = refl

  name_same : (r : Result (List ℕ × List ℕ) (List ℕ)) → r ≡ Ok (name, rest)
      → and_then {B = RootLines × List ℕ} (and_then {B = (List ℕ × RootResult) × List ℕ} r (λ r. and_then ((result_format more).read r.1) (λ s. Ok ((r.0, s.0), s.1)))) (λ r. Ok (root_of r.0, r.1)) ≡ by_name
  name_same r is =
      ap (λ (r : Result (List ℕ × List ℕ) (List ℕ)). and_then {B = RootLines × List ℕ} (and_then {B = (List ℕ × RootResult) × List ℕ} r (λ r. and_then ((result_format more).read r.1) (λ s. Ok ((r.0, s.0), s.1)))) (λ r. Ok (root_of r.0, r.1))) is
      ∙ verdict_same ((result_format more).read rest)

  literal_same : (r : Result (Unit {0} × List ℕ) (List ℕ)) → and_then r (λ r. (name_and 32).read r.1) ≡ Ok (name, rest)
      → and_then {B = RootLines × List ℕ} (and_then {B = (List ℕ × RootResult) × List ℕ} r (λ r. (both (name_and 32) (λ _. result_format more)).read r.1)) (λ r. Ok (root_of r.0, r.1)) ≡ by_name
  literal_same (Ok t) is = name_same ((name_and 32).read t.1) is
  literal_same (Err e) is = absurd (let none : ⊥ = cc in none)

pub root_by_name : (more : Bool) (bytes rest name : List ℕ) → root_name.read bytes ≡ Ok (name, rest)
    → (root_format more).read bytes ≡ and_then ((result_format more).read rest) (λ r. Ok (record { name = name; verdict = r.0 }, r.1))
root_by_name more bytes rest name said = literal_same more name rest (read_literal (codes "root ") bytes) said

-- a loop that reads root by root: these are read, and so many are left
pub record GoesOn (many : ℕ) (bytes : List ℕ) (left : ℕ) (done : List RootLines) (rest : List ℕ) : Type 0 where
  pub count : length done + left ≡ many
  pub same : and_then {B = List RootLines × List ℕ} (read_roots left rest) (λ s. Ok (done ++ s.0, s.1)) ≡ read_roots many bytes

one_before : (done : List RootLines) (r : RootLines) (s : Result (List RootLines × List ℕ) (List ℕ))
    → and_then {B = List RootLines × List ℕ} s (λ s. Ok ((done ++ r ∷ []) ++ s.0, s.1))
    ≡ and_then {B = List RootLines × List ℕ} (and_then {B = List RootLines × List ℕ} s (λ s. Ok (r ∷ s.0, s.1))) (λ s. Ok (done ++ s.0, s.1))
one_before done r (Ok t) = ap (λ l. Ok (l, t.1)) (append_assoc done (r ∷ []) t.0)
one_before done r (Err e) = refl

none_before : (s : Result (List RootLines × List ℕ) (List ℕ)) → and_then {B = List RootLines × List ℕ} s (λ s. Ok ([] ++ s.0, s.1)) ≡ s
none_before (Ok t) = refl
none_before (Err e) = refl

pub first_root : (many : ℕ) (bytes : List ℕ) → GoesOn many bytes many [] bytes
first_root many bytes = record { count = omega arith; same = none_before (read_roots many bytes) }

root_read : (left : ℕ) (rest next : List ℕ) (r : RootLines) → (root_format (ltb 0 left)).read rest ≡ Ok (r, next)
    → read_roots (suc left) rest ≡ and_then {B = List RootLines × List ℕ} (read_roots left next) (λ s. Ok (r ∷ s.0, s.1))
root_read left rest next r at = roots-step left rest ∙ (rw at refl)

next_root : (many : ℕ) (bytes : List ℕ) (left : ℕ) (done : List RootLines) (rest next : List ℕ) (r : RootLines) → GoesOn many bytes (suc left) done rest
    → (root_format (ltb 0 left)).read rest ≡ Ok (r, next) → GoesOn many bytes left (done ++ r ∷ []) next
next_root many bytes left done rest next r goes at = record {
  count = let sum = goes.count in omega (arith, length-append done (r ∷ []));
  same = one_before done r (read_roots left next)
      ∙ ap (λ (s : Result (List RootLines × List ℕ) (List ℕ)). and_then {B = List RootLines × List ℕ} s (λ s. Ok (done ++ s.0, s.1))) (sym (root_read left rest next r at)) ∙ goes.same;
}

pub more_roots : (many : ℕ) (bytes : List ℕ) (from left : ℕ) (done new : List RootLines) (rest : List ℕ) (next : Bor (List ℕ)) → from ≡ suc left → GoesOn many bytes from done rest
    → AddsOne ((root_format (ltb 0 left)).read rest) done new (Ok next) → GoesOn many bytes left new next.now
more_roots many bytes from left done new rest next is goes adds =
    subst (λ (l : List RootLines). GoesOn many bytes left l next.now) (sym adds.2)
    (next_root many bytes left done rest next.now adds.0 (subst (λ (n : ℕ). GoesOn many bytes n done rest) is goes) adds.1)

root_stops : (left : ℕ) (rest stop : List ℕ) → (root_format (ltb 0 left)).read rest ≡ Err stop → read_roots (suc left) rest ≡ Err stop
root_stops left rest stop at = roots-step left rest ∙ (rw at refl)

pub stop_roots : (many : ℕ) (bytes : List ℕ) (from left : ℕ) (done new : List RootLines) (rest : List ℕ) (stop : ReadStop) → from ≡ suc left → GoesOn many bytes from done rest
    → AddsOne ((root_format (ltb 0 left)).read rest) done new (Err stop) → ReadsOne {X = List RootLines} ((roots_format many).read bytes) (Err stop)
stop_roots many bytes from left done new rest (At s) is goes adds =
    let here = subst (λ (n : ℕ). GoesOn many bytes n done rest) is goes in
    sym here.same ∙ ap (λ (s : Result (List RootLines × List ℕ) (List ℕ)). and_then {B = List RootLines × List ℕ} s (λ s. Ok (done ++ s.0, s.1))) (root_stops left rest s.now adds)
stop_roots many bytes from left done new rest NoMemory is goes adds = tt

last_root : (bytes : List ℕ) (many : ℕ) (done : List RootLines) (rest : List ℕ) → GoesOn many bytes 0 done rest → length rest ≡ 0 → read_roots many bytes ≡ Ok (done, rest)
last_root bytes many done [] goes none =
    sym goes.same ∙ ap (λ (s : Result (List RootLines × List ℕ) (List ℕ)). and_then {B = List RootLines × List ℕ} s (λ s. Ok (done ++ s.0, s.1))) (roots-none [])
    ∙ ap (λ l. Ok (l, [])) (append-nil done)
last_root bytes many done (c ∷ cs) goes none = absurd (omega arith)

pub all_roots : (bytes : List ℕ) (many left : ℕ) (done : List RootLines) (rest : List ℕ) → left ≡ 0 → GoesOn many bytes left done rest → length rest ≡ 0
    → read_roots many bytes ≡ Ok (done, rest)
all_roots bytes many left done rest none goes short = last_root bytes many done rest (subst (λ (n : ℕ). GoesOn many bytes n done rest) none goes) short

too_long : (bytes : List ℕ) (many : ℕ) (done : List RootLines) (rest : List ℕ) → GoesOn many bytes 0 done rest → (length rest ≡ 0 → ⊥) → read_roots many bytes ≡ Err rest
too_long bytes many done [] goes some = absurd (some refl)
too_long bytes many done (c ∷ cs) goes some =
    sym goes.same ∙ ap (λ (s : Result (List RootLines × List ℕ) (List ℕ)). and_then {B = List RootLines × List ℕ} s (λ s. Ok (done ++ s.0, s.1))) (roots-none (c ∷ cs))

pub too_many : (bytes : List ℕ) (many left : ℕ) (done : List RootLines) (rest : List ℕ) → left ≡ 0 → GoesOn many bytes left done rest → (length rest ≡ 0 → ⊥)
    → read_roots many bytes ≡ Err rest
too_many bytes many left done rest none goes some = too_long bytes many done rest (subst (λ (n : ℕ). GoesOn many bytes n done rest) none goes) some

-- what is read is a report whose text the bytes are
pub report_is : (bytes rest : List ℕ) (report : Report) → report_format.read bytes ≡ Ok (report, rest) → IsReport bytes report
report_is bytes rest report read =
    let t = report-law.takes bytes rest report read in
    record { keeps = t.0; spelled = t.2 ∙ ap (λ l. report_format.spell report ++ l) t.1 ∙ append-nil (report_format.spell report) }

reads_back : (bytes : List ℕ) (report : Report) → IsReport bytes report → report_format.read bytes ≡ Ok (report, [])
reads_back bytes report is =
    ap report_format.read (is.spelled ∙ sym (append-nil (report_format.spell report))) ∙ report-law.again report [] is.keeps refl

-- no two reports have one text
pub only_one : (bytes : List ℕ) (one other : Report) → IsReport bytes one → IsReport bytes other → one ≡ other
only_one bytes one other is it =
    ap (λ (q : Report × List ℕ). q.0) (ok_is (one, []) (other, []) (sym (reads_back bytes one is) ∙ reads_back bytes other it))

pub rest_within : (bytes rest : List ℕ) → report_format.read bytes ≡ Err rest → length rest ≤ length bytes
rest_within bytes rest read =
    let s = report-law.stops bytes rest read in
    let sum = ap length s.parts ∙ length-append s.front rest in
    omega arith

begins_from : (front : List ℕ) → Begins report_format front → BeginsReport front
begins_from front b = (b.0, b.1, record { keeps = b.2; spelled = b.3 })

begins_to : (front : List ℕ) → BeginsReport front → Begins report_format front
begins_to front b = (b.0, b.1, b.2.keeps, b.2.spelled)

-- where reading stops there is no report, and the place is where the longest front ends
pub refused_is : (bytes rest : List ℕ) → report_format.read bytes ≡ Err rest → IsNoReport bytes (length bytes - length rest)
refused_is bytes rest read =
    let within = rest_within bytes rest read in
    let p = stop-place report_format report-law bytes rest read (length bytes - length rest) (omega arith) in
    record {
      none = λ report is. stop-none report_format report-law bytes rest read report is.keeps is.spelled;
      place = record {
        within = p.within;
        begins = begins_from (take (length bytes - length rest) bytes) p.begins;
        longest = λ m past inside begins. p.longest m past inside (begins_to (take m bytes) begins);
      };
    }

pub stopped_at : (bytes : List ℕ) (stop : ReadStop) (rest : Bor (List ℕ)) → stop ≡ At rest → ReadsOne {X = Report} (report_format.read bytes) (Err stop) → report_format.read bytes ≡ Err rest.now
stopped_at bytes stop rest is reads = let P : ReadStop → Type 0 = λ e. ReadsOne {X = Report} (report_format.read bytes) (Err e) in subst P is reads
