-- The checks of an element, where the memory is told or not.
use Rattle.std.proofs.Common.{◌≡◌, ℕ, zero, suc, ◌+◌, ◌≤◌, add-one, length, true, false, List, [], ◌∷◌, ◌++◌, drop, take, slice_get, map, Option, Some, None, refl, sym, ◌∙◌, ap, append_assoc}
use Rattle.std.specs.Prelude.{Result, Ok, Err, IfSome, option_to_list}
use Rattle.std.proofs.lemmas.List.{drop_all}
use Rattle.kc_memory.specs.declared.space.Stop.{Stop}
use Rattle.kc_memory.specs.declared.space.Stop.TheVariants as stops
use Rattle.kc_memory.specs.Bits.{Number}
use Rattle.kc_memory.specs.Image.{Image}
use Rattle.kc_memory.specs.Space.{AnswersAs}
use Rattle.kc_memory.specs.Stopped.{Stopped}
use Rattle.kc_memory.specs.Translation.{and_then}
use Rattle.kc_expr.specs.Values.{is_true}
use Rattle.kc_layout.specs.declared.place.Field.{Field}
use Rattle.kc_layout.specs.Ends.{NumberAt}
use Rattle.kc_layout.specs.Views.{number_view}
use Rattle.kc_view.specs.Fields.{or_missed}
use Rattle.kc_found.specs.declared.asked.Asked.{Asked}
use Rattle.kc_found.specs.declared.found.WalkStop.{WalkStop}
use Rattle.kc_found.specs.declared.found.WalkStop.TheVariants as ends
use Rattle.kc_found.specs.declared.verdict.AuditCount.{AuditCount}
use Rattle.kc_found.specs.Violations.{Violation, missed}
use Rattle.kc_found.specs.Walks.{IsBroken, IsStopped, WalksAs}
use Rattle.kc_plan.specs.Checks.{checked, fails, numbers_of, value_of, words_of}
use Rattle.kc_plan.specs.Events.{Event}
use Rattle.kc_plan.specs.Planned.{CheckAt}
use Rattle.kc_plan.specs.Seen.{checks_seen, number_at, world}
use Rattle.kc_run.specs.Tally.{TalliesAs, tally}
use Rattle.kc_run.proofs.Going.{Left, drop_at, turn_goes, turn_stops}

append_nil : {X : Type 0} (xs : List X) → xs ++ [] ≡ xs
append_nil [] = refl
append_nil (x ∷ xs) = ap (λ ys. x ∷ ys) (append_nil xs)

-- one number more
pub words_added : (numbers : List Number) (i : ℕ) (n : Number) → slice_get numbers i ≡ Some n → words_of (take (i + 1) numbers) ≡ words_of (take i numbers) ++ n.first ∷ option_to_list n.second
words_added numbers i n is = rw add-one (words_next numbers i n is)
  where
    words_next : (numbers : List Number) (i : ℕ) (n : Number) → slice_get numbers i ≡ Some n → words_of (take (suc i) numbers) ≡ words_of (take i numbers) ++ n.first ∷ option_to_list n.second
    words_next [] i n is = absurd (let none : ⊥ = cc in none)
    words_next (m ∷ ms) zero n is = let same : m ≡ n = cc in rw same (append_nil (n.first ∷ option_to_list n.second))
    words_next (m ∷ ms) (suc i) n is =
        ap (λ ps. (m.first ∷ option_to_list m.second) ++ ps) (words_next ms i n is) ∙ sym (append_assoc (m.first ∷ option_to_list m.second) (words_of (take i ms)) (n.first ∷ option_to_list n.second))

-- behind these numbers
abbrev behind : List Number → Result (List Number) Stopped → Result (List Number) Stopped
behind done r = and_then r (λ ns. Ok (done ++ ns))

-- the numbers of all fields are those that were read, and then those that are left
abbrev pub FieldsLeft : Option Image → ℕ → List Field → List Number → List Field → Type 0
FieldsLeft image element all done rest =
    IfSome image (λ i. numbers_of (number_at i element) (map number_view all) ≡ and_then (numbers_of (number_at i element) (map number_view rest)) (λ ns. Ok (done ++ ns)))

behind_none : (r : Result (List Number) Stopped) → r ≡ behind [] r
behind_none (Ok ns) = refl
behind_none (Err s) = refl

pub fields_begin : (image : Option Image) (element : ℕ) (all : List Field) → FieldsLeft image element all [] all
fields_begin None element all = tt
fields_begin (Some i) element all = behind_none (numbers_of (number_at i element) (map number_view all))

behind_one : (done : List Number) (n : Number) (rest : Result (List Number) Stopped) → behind done (and_then rest (λ ns. Ok (n ∷ ns))) ≡ behind (done ++ n ∷ []) rest
behind_one done n (Ok ns) = ap Ok (sym (append_assoc done (n ∷ []) ns))
behind_one done n (Err s) = refl

-- the first of these fields has this number
with_first : (read : NumberAt → Result Number Stopped) (f : NumberAt) (fields : List NumberAt) (n : Number) → read f ≡ Ok n → numbers_of read (f ∷ fields) ≡ and_then (numbers_of read fields) (λ ns. Ok (n ∷ ns))
with_first read f fields n is = rw is refl

pub fields_go : (image : Option Image) (element : ℕ) (all : List Field) (done more : List Number) (i : ℕ) (f : Field) (n : Number) → slice_get all i ≡ Some f → more ≡ done ++ n ∷ [] →
    FieldsLeft image element all done (drop i all) → AnswersAs (λ m. number_at m element (number_view f)) image (Ok n) → FieldsLeft image element all more (drop (i + 1) all)
fields_go None element all done more i f n is pushed l e = tt
fields_go (Some m) element all done more i f n is pushed l e =
    let rest = map number_view (drop (i + 1) all) in
    let here = rw (drop_at all i f is) at l in
    rw pushed
    (here ∙ ap (behind done) (with_first (number_at m element) (number_view f) rest n e) ∙ behind_one done n (numbers_of (number_at m element) rest))

pub fields_stop : (A : Type 0) (view : A → List Number) (image : Option Image) (asked : Asked) (element : ℕ) (all : List Field) (done : List Number) (i : ℕ) (f : Field) (cause : Stop) (stop : WalkStop) → slice_get all i ≡ Some f →
    FieldsLeft image element all done (drop i all) → AnswersAs (λ m. number_at m element (number_view f)) image (Err cause) → IsStopped stop asked None cause →
    WalksAs view (λ m. or_missed asked (numbers_of (number_at m element) (map number_view all))) image (Err stop)
fields_stop A view None asked element all done i f cause stop is l e end = tt
fields_stop A view (Some m) asked element all done i f (stops.Miss s) stop is l e end = by_end stop end
  where
    whole : numbers_of (number_at m element) (map number_view all) ≡ Err s
    whole = rw (drop_at all i f is, e) at l

    by_end : (stop : WalkStop) → IsBroken stop (missed asked None s) → WalksAs view (λ m. or_missed asked (numbers_of (number_at m element) (map number_view all))) (Some m) (Err stop)
    by_end (ends.Broken v) same = ap (or_missed asked) whole ∙ ap Err (sym same)
    by_end ends.Fault same = absurd same
    by_end ends.NoMemory same = tt
fields_stop A view (Some m) asked element all done i f stops.Fault stop is l e end = rw end tt

pub fields_end : (image : Option Image) (asked : Asked) (element : ℕ) (all : List Field) (done : List Number) (rest : List Field) → rest ≡ [] →
    FieldsLeft image element all done rest → WalksAs (λ (ns : List Number). ns) (λ m. or_missed asked (numbers_of (number_at m element) (map number_view all))) image (Ok done)
fields_end None asked element all done rest none l = tt
fields_end (Some m) asked element all done rest none l =
    let here = rw (none, append_nil done) at l in
    ap (or_missed asked) here

-- what is seen of a check, where its fields are read
abbrev pub check_from : Asked → ℕ → CheckAt → Image → List Event
check_from asked element check = λ i. checked asked element check (numbers_of (number_at i element) check.fields)

read_numbers : (asked : Asked) (r : Result (List Number) Stopped) (numbers : List Number) → or_missed asked r ≡ Ok numbers → r ≡ Ok numbers
read_numbers asked (Ok ns) numbers is = let same : ns ≡ numbers = cc in ap Ok same
read_numbers asked (Err s) numbers is = let none : ⊥ = cc in absurd none

pub check_holds : {A : Type 0} (image : Option Image) (asked : Asked) (element : ℕ) (check : CheckAt) (numbers : List Number) (counts : List AuditCount) (u : A) → WalksAs (λ (ns : List Number). ns) (λ i. or_missed asked (numbers_of (number_at i element) check.fields)) image (Ok numbers) →
    is_true (value_of check numbers) ≡ true → TalliesAs (check_from asked element check) counts counts image (Ok u)
check_holds None asked element check numbers counts u read holds = tt
check_holds (Some i) asked element check numbers counts u read holds = rw (read_numbers asked _ numbers read, holds) refl

pub check_fails : (A : Type 0) (image : Option Image) (asked : Asked) (element : ℕ) (check : CheckAt) (numbers : List Number) (counts : List AuditCount) (stop : WalkStop) → WalksAs (λ (ns : List Number). ns) (λ i. or_missed asked (numbers_of (number_at i element) check.fields)) image (Ok numbers) →
    is_true (value_of check numbers) ≡ false → IsBroken stop (fails asked element numbers) → TalliesAs {A = A} (check_from asked element check) counts counts image (Err stop)
check_fails A None asked element check numbers counts stop read holds same = tt
check_fails A (Some i) asked element check numbers counts (ends.Broken v) read holds same = rw (read_numbers asked _ numbers read, holds) (ap Err (sym same))
check_fails A (Some i) asked element check numbers counts ends.Fault read holds same = absurd same
check_fails A (Some i) asked element check numbers counts ends.NoMemory read holds same = tt

by_missed : (asked : Asked) (element : ℕ) (check : CheckAt) (r : Result (List Number) Stopped) (v : Violation) (counts : List AuditCount) → or_missed asked r ≡ Err v → tally counts (checked asked element check r) ≡ Err v
by_missed asked element check (Ok ns) v counts is = let none : ⊥ = cc in absurd none
by_missed asked element check (Err s) v counts is = let same : missed asked None s ≡ v = cc in ap Err same

pub check_stops : (A : Type 0) {B : Type 0} (view : B → List Number) (image : Option Image) (asked : Asked) (element : ℕ) (check : CheckAt) (counts : List AuditCount) (stop : WalkStop) → WalksAs view (λ i. or_missed asked (numbers_of (number_at i element) check.fields)) image (Err stop) →
    TalliesAs {A = A} (check_from asked element check) counts counts image (Err stop)
check_stops A view None asked element check counts stop read = tt
check_stops A view (Some i) asked element check counts (ends.Broken v) read = by_missed asked element check (numbers_of (number_at i element) check.fields) v counts read
check_stops A view (Some i) asked element check counts ends.Fault read = tt
check_stops A view (Some i) asked element check counts ends.NoMemory read = tt

-- all checks of an element, and those that are left
abbrev pub all_checked : Asked → ℕ → List CheckAt → Image → List Event
all_checked asked element checks = λ i. checks_seen (world i) asked checks element

abbrev pub ChecksLeft : Option Image → Asked → ℕ → List CheckAt → List CheckAt → Type 0
ChecksLeft image asked element all rest = (counts : List AuditCount) → Left image counts (all_checked asked element all) counts (λ i check. check_from asked element check i) rest

pub checks_begin : (image : Option Image) (asked : Asked) (element : ℕ) (all : List CheckAt) → ChecksLeft image asked element all all
checks_begin None asked element all counts = tt
checks_begin (Some i) asked element all counts = refl

pub checks_end : {A : Type 0} (image : Option Image) (asked : Asked) (element : ℕ) (all : List CheckAt) (i : ℕ) (counts : List AuditCount) (u : A) → length all ≤ i → ChecksLeft image asked element all (drop i all) →
    TalliesAs (all_checked asked element all) counts counts image (Ok u)
checks_end None asked element all i counts u le l = tt
checks_end (Some m) asked element all i counts u le l = rw (drop_all i all le) at (l counts)

pub checks_go : {A : Type 0} (image : Option Image) (asked : Asked) (element base : ℕ) (all : List CheckAt) (i : ℕ) (check : CheckAt) (u : A) → base ≡ element → slice_get all i ≡ Some check → ChecksLeft image asked element all (drop i all) →
    ((counts : List AuditCount) → TalliesAs (check_from asked base check) counts counts image (Ok u)) → ChecksLeft image asked element all (drop (i + 1) all)
checks_go image asked element base all i check u same is l go counts =
    turn_goes image counts counts counts (all_checked asked element all) (λ m c. check_from asked element c m) all i check u is (l counts) (rw same at (go counts))

pub checks_stop : (A B : Type 0) (image : Option Image) (asked : Asked) (element base : ℕ) (all : List CheckAt) (i : ℕ) (check : CheckAt) (stop : WalkStop) → base ≡ element → slice_get all i ≡ Some check → ChecksLeft image asked element all (drop i all) →
    (counts : List AuditCount) → TalliesAs {A = B} (check_from asked base check) counts counts image (Err stop) → TalliesAs {A = A} (all_checked asked element all) counts counts image (Err stop)
checks_stop A B image asked element base all i check stop same is l counts e =
    turn_stops A B image counts counts counts counts (all_checked asked element all) (λ m c. check_from asked element c m) all i check stop is (l counts) (rw same at e)
