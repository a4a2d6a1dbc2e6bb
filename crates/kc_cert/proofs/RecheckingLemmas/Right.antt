-- A certificate whose steps all fit is that of a plan that stands, with the counts of its verdict.
use Rattle.std.proofs.Common.{◌≡◌, ℕ, suc, ◌<◌, ◌≤◌, Bool, true, false, ◌&&◌, nat_eq, List, [], ◌∷◌, ◌++◌, length, drop, Option, Some, None, refl, sym, ◌∙◌, ap, arith, subst}
use Rattle.std.specs.Prelude.{Result, Ok, Err, IfSome, if◌then◌else◌, is_none}
use Rattle.std.proofs.lemmas.Bool.{and_parts}
use Rattle.std.proofs.lemmas.List.{drop_all, length-drop}
use Rattle.kc_memory.specs.Bits.{Number}
use Rattle.kc_memory.specs.Image.{Image}
use Rattle.kc_memory.specs.Stopped.{Stopped}
use Rattle.kc_found.specs.declared.asked.Asked.{Asked}
use Rattle.kc_found.specs.declared.verdict.AuditCount.{AuditCount}
use Rattle.kc_found.specs.declared.verdict.Verdict.{Verdict}
use Rattle.kc_found.specs.declared.verdict.Verdict.TheVariants.{Clean, Broken}
use Rattle.kc_found.specs.Trials.{and_then}
use Rattle.kc_found.specs.Violations.{Violation}
use Rattle.kc_expr.specs.Values.{is_true}
use Rattle.kc_plan.specs.Checks.{checked, numbers_of, value_of}
use Rattle.kc_plan.specs.Events.{Event, Walk, Wrong, first_wrong}
use Rattle.kc_plan.specs.Planned.{AuditAt, CheckAt}
use Rattle.kc_plan.specs.Seen.{PathEnd, EndsAt, NullAt, at_element, below, checks_seen, container_of, entered, in_turn, is_optional, number_at, path_end, path_of, roots, seen, walked, world}
use Rattle.kc_kinds.specs.Structures.{nodes_of}
use Rattle.kc_plan.specs.Verdicts.{IsClean, verdict}
use Rattle.kc_run.specs.Laws.{CleanWhereStanding}
use Rattle.kc_run.specs.Tally.{tally, zeros}
use Rattle.kc_run.proofs.Counting.{ends_clean, tally_goes}
use Rattle.kc_cert.specs.declared.text.certificate.CertStep.{CertStep}
use Rattle.kc_cert.specs.declared.rechecking.against.CertAnswer.{CertAnswer}
use Rattle.kc_cert.specs.declared.rechecking.against.CertAnswer.TheVariants.{Yes, No}
use Rattle.kc_cert.specs.declared.rechecking.nest.StepCursor.{StepCursor}
use Rattle.kc_found.specs.declared.test.TestStop.TheVariants.{Unfit}
use Rattle.kc_cert.specs.Rechecking.Answers.{IsRight, JudgesAs, progress}
use Rattle.kc_cert.specs.Rechecking.Laws.{AnswersAreRight}
use Rattle.kc_cert.specs.Fits.Fits.{all_hold, checks_hold, fits}
use Rattle.kc_cert.specs.Rechecking.Certificates.{Progress, Judged, Judge, answer, answer_by, answer_of, below_judged, each_judged, entry_judged, judged, nodes_judged, after_walk, number_of, roots_judged, walk_judged}
use Rattle.kc_cert.specs.Fits.Walked.{ShapesAreWalked}
use Rattle.kc_cert.specs.Fits.Shapes.{is_shape, nodes_in}

-- checks that all hold show nothing
wrong_parts : (es us : List Event) → first_wrong (es ++ us) ≡ None → (first_wrong es ≡ None) × (first_wrong us ≡ None)
wrong_parts [] us e = (refl, e)
wrong_parts (Walk n size ∷ es) us e = wrong_parts es us e
wrong_parts (Wrong v ∷ es) us e = let none : ⊥ = cc in absurd none

unless_wrong : (b : Bool) (v : Violation) → first_wrong (if b then [] else (Wrong v ∷ [])) ≡ None → (if b then [] else (Wrong v ∷ [])) ≡ []
unless_wrong true v e = refl
unless_wrong false v e = let none : ⊥ = cc in absurd none

check_none : (asked : Asked) (element : ℕ) (check : CheckAt) (there : Result (List Number) Stopped) → first_wrong (checked asked element check there) ≡ None → checked asked element check there ≡ []
check_none asked element check (Err s) e = let none : ⊥ = cc in absurd none
check_none asked element check (Ok numbers) e = unless_wrong (is_true (value_of check numbers)) _ e

pub checks_none : (i : Image) (asked : Asked) (element : ℕ) (checks : List CheckAt) → first_wrong (checks_seen (world i) asked checks element) ≡ None → checks_seen (world i) asked checks element ≡ []
checks_none i asked element [] e = refl
checks_none i asked element (check ∷ checks) e =
    let there = numbers_of (number_at i element) check.fields in
    let parts = wrong_parts (checked asked element check there) (checks_seen (world i) asked checks element) e in
    ap (λ es. es ++ checks_seen (world i) asked checks element) (check_none asked element check there parts.0) ∙ checks_none i asked element checks parts.1

pub none_of : (o : Option Violation) → is_none o ≡ true → o ≡ None
none_of None e = refl
none_of (Some v) e = let none : ⊥ = cc in absurd none

-- what is judged from an address, and what is seen there
abbrev Tallied : (ℕ → ℕ → Judge) → (ℕ → ℕ → List Event) → Type 0
Tallied judge see = (m x : ℕ) (p after : Progress) → judge m x p ≡ Ok after → tally p.counts (see m x) ≡ Ok after.counts

each_tallied : {X : Type 0} (judge : X → Judge) (see : X → List Event) (xs : List X) (p after : Progress) → ((x : X) (q r : Progress) → judge x q ≡ Ok r → tally q.counts (see x) ≡ Ok r.counts) →
    each_judged judge xs p ≡ Ok after → tally p.counts (in_turn see xs) ≡ Ok after.counts
each_tallied judge see [] p after further e = let same : p ≡ after = cc in ap (λ (q : Progress). Ok q.counts) same
each_tallied judge see (x ∷ xs) p after further e = by_first (judge x p) refl (λ q f. each_tallied judge see xs q after further f) e
  where
    by_first : (r : Judged) → judge x p ≡ r → ((q : Progress) → each_judged judge xs q ≡ Ok after → tally q.counts (in_turn see xs) ≡ Ok after.counts) → and_then r (each_judged judge xs) ≡ Ok after → tally p.counts (see x ++ in_turn see xs) ≡ Ok after.counts
    by_first (Err left) is more e = let none : ⊥ = cc in absurd none
    by_first (Ok q) is more e = tally_goes p.counts q.counts (see x) (in_turn see xs) (further x p q is) ∙ more q e

nodes_tallied : (i : Image) (n : ℕ) (a : AuditAt) (start : ℕ) (judge : ℕ → ℕ → Judge) (see : ℕ → ℕ → List Event) (nodes : List ℕ) (p after : Progress) → Tallied judge see → all_hold i n a start nodes ≡ true →
    nodes_judged a judge nodes p ≡ Ok after → tally p.counts (in_turn (λ node. at_element (world i) n a start see (container_of a.link node)) nodes) ≡ Ok after.counts
nodes_tallied i n a start judge see [] p after further hold e = let same : p ≡ after = cc in ap (λ (q : Progress). Ok q.counts) same
nodes_tallied i n a start judge see (node ∷ nodes) p after further hold e = by_first (below_judged a judge (container_of a.link node) p) refl (λ q h f. nodes_tallied i n a start judge see nodes q after further h f) e
  where
    by_first : (r : Judged) → below_judged a judge (container_of a.link node) p ≡ r →
        ((q : Progress) → all_hold i n a start nodes ≡ true → nodes_judged a judge nodes q ≡ Ok after → tally q.counts (in_turn (λ node. at_element (world i) n a start see (container_of a.link node)) nodes) ≡ Ok after.counts) →
        and_then r (nodes_judged a judge nodes) ≡ Ok after →
        tally p.counts (at_element (world i) n a start see (container_of a.link node) ++ in_turn (λ node. at_element (world i) n a start see (container_of a.link node)) nodes) ≡ Ok after.counts
    by_first (Err left) is more e = let none : ⊥ = cc in absurd none
    by_first (Ok q) is more e =
        let parts = and_parts (checks_hold i n a start (container_of a.link node)) (all_hold i n a start nodes) hold in
        let silent = checks_none i (record { audit = n; start = start }) (container_of a.link node) a.checks (none_of _ parts.0) in
        let here : at_element (world i) n a start see (container_of a.link node) ≡ below a see (container_of a.link node) = ap (λ es. es ++ below a see (container_of a.link node)) silent in
        let first = each_tallied (λ m. judge m (container_of a.link node)) (λ m. see m (container_of a.link node)) a.each p q (λ m s t is. further m (container_of a.link node) s t is) is in
        tally_goes p.counts q.counts (at_element (world i) n a start see (container_of a.link node)) _ (ap (tally p.counts) here ∙ first)
        ∙ more q parts.1 e

pub fits_parts : (i : Image) (n : ℕ) (a : AuditAt) (start : ℕ) (s : CertStep) → fits i n a start s ≡ true → (is_shape i a.kind n start s.lists ≡ true) × (all_hold i n a start (nodes_in a.kind s.lists) ≡ true)
unfolding fits
fits_parts i n a start s is =
    let parts = and_parts (nat_eq s.audit n && nat_eq s.start start) (is_shape i a.kind n start s.lists && all_hold i n a start (nodes_in a.kind s.lists)) is in
    let more = and_parts (is_shape i a.kind n start s.lists) (all_hold i n a start (nodes_in a.kind s.lists)) parts.1 in
    (more.0, more.1)

walk_tallied : ShapesAreWalked → (i : Image) (n : ℕ) (a : AuditAt) (start : ℕ) (judge : ℕ → ℕ → Judge) (see : ℕ → ℕ → List Event) (counts : List AuditCount) (left : List CertStep) (after : Progress) → Tallied judge see →
    walk_judged i n a start judge counts left ≡ Ok after → tally counts (walked (world i) n a start see (nodes_of i a.kind n start)) ≡ Ok after.counts
walk_tallied laws i n a start judge see counts [] after further e = let none : ⊥ = cc in absurd none
walk_tallied laws i n a start judge see counts (s ∷ left) after further e = by_fit (fits i n a start s) refl e
  where
    nodes : List ℕ
    nodes = nodes_in a.kind s.lists

    by_fit : (b : Bool) → fits i n a start s ≡ b → (if b then nodes_judged a judge (nodes_in a.kind s.lists) (after_walk left counts n (nodes_in a.kind s.lists)) else Err (s ∷ left)) ≡ Ok after →
        tally counts (walked (world i) n a start see (nodes_of i a.kind n start)) ≡ Ok after.counts
    by_fit false is e = let none : ⊥ = cc in absurd none
    by_fit true is e =
        let parts = fits_parts i n a start s is in
        let found = laws i a.kind n start s.lists parts.0 in
        ap (λ r. tally counts (walked (world i) n a start see r)) found
        ∙ nodes_tallied i n a start judge see (nodes_in a.kind s.lists) (after_walk left counts n (nodes_in a.kind s.lists)) after further parts.1 e

entry_tallied : ShapesAreWalked → (i : Image) (n : ℕ) (a : AuditAt) (judge : ℕ → ℕ → Judge) (see : ℕ → ℕ → List Event) (base : ℕ) (there : Result PathEnd Stopped) (p after : Progress) → Tallied judge see →
    entry_judged i n a judge there p ≡ Ok after → tally p.counts (entered (world i) n a see base there) ≡ Ok after.counts
entry_tallied laws i n a judge see base (Err s) p after further e = let none : ⊥ = cc in absurd none
entry_tallied laws i n a judge see base (Ok (EndsAt start)) p after further e = walk_tallied laws i n a start judge see p.counts p.left after further e
entry_tallied laws i n a judge see base (Ok (NullAt place at)) p after further e = by_option (is_optional a.start) refl e
  where
    by_option : (b : Bool) → is_optional a.start ≡ b → (if b then Ok p else Err p.left) ≡ Ok after → tally p.counts (entered (world i) n a see base (Ok (NullAt place at))) ≡ Ok after.counts
    by_option false is e = let none : ⊥ = cc in absurd none
    by_option true is e = let same : p ≡ after = cc in rw is (ap (λ (q : Progress). Ok q.counts) same)

pick_tallied : (b : Bool) (one other : Judged) (es us : List Event) (counts : List AuditCount) (after : Progress) → (one ≡ Ok after → tally counts es ≡ Ok after.counts) → (other ≡ Ok after → tally counts us ≡ Ok after.counts) →
    (if b then one else other) ≡ Ok after → tally counts (if b then es else us) ≡ Ok after.counts
pick_tallied true one other es us counts after f g e = f e
pick_tallied false one other es us counts after f g e = g e

judged_tallied : ShapesAreWalked → (i : Image) (audits : List AuditAt) (k m base : ℕ) (p after : Progress) → judged i audits k m base p ≡ Ok after → tally p.counts (seen (world i) audits k m base) ≡ Ok after.counts
unfolding judged seen
judged_tallied laws i [] k m base p after e = let same : p ≡ after = cc in ap (λ (q : Progress). Ok q.counts) same
judged_tallied laws i (a ∷ later) k m base p after e =
    pick_tallied (nat_eq m k) _ _ _ _ p.counts after
    (entry_tallied laws i k a (λ n x. judged i later (suc k) n x) (λ n x. seen (world i) later (suc k) n x) base (path_end i base (path_of a.start).hops (path_of a.start).byte) p after (λ n x q r is. judged_tallied laws i later (suc k) n x q r is))
    (judged_tallied laws i later (suc k) m base p after) e

clean_is : (v : Verdict) (counts : List AuditCount) → v ≡ Clean counts → IsClean v
clean_is (Clean cs) counts e = tt
clean_is (Broken v) counts e = let none : ⊥ = cc in absurd none

-- the steps are all those of a plan that stands
right : ShapesAreWalked → CleanWhereStanding → (i : Image) (audits : List AuditAt) (steps : List CertStep) (after : Progress) → roots_judged i audits (record { left = steps; counts = zeros audits }) ≡ Ok after → IsRight i audits (Yes after.counts)
right laws clean i audits steps after e =
    let whole = each_tallied (λ r. judged i audits 0 r.0 r.1) (λ r. seen (world i) audits 0 r.0 r.1) (roots 0 audits) (record { left = steps; counts = zeros audits }) after (λ r q s is. judged_tallied laws i audits 0 r.0 r.1 q s is) e in
    let is : verdict i audits ≡ Clean after.counts = ends_clean {A = ℕ} (Some i) audits after.counts 0 whole in
    ((clean i audits).0 (clean_is (verdict i audits) after.counts is), is)

left_right : (i : Image) (audits : List AuditAt) (steps left : List CertStep) (counts : List AuditCount) → IsRight i audits (Yes counts) → IsRight i audits (answer_by steps counts left)
left_right i audits steps [] counts is = is
left_right i audits steps (s ∷ left) counts is = tt

judged_right : (i : Image) (audits : List AuditAt) (steps : List CertStep) (j : Judged) → ((after : Progress) → j ≡ Ok after → IsRight i audits (Yes after.counts)) → IsRight i audits (answer_of steps j)
judged_right i audits steps (Ok p) is = left_right i audits steps p.left p.counts (is p refl)
judged_right i audits steps (Err left) is = tt

pub answer_right : ShapesAreWalked → CleanWhereStanding → AnswersAreRight
answer_right laws clean i audits steps = judged_right i audits steps (roots_judged i audits (record { left = steps; counts = zeros audits })) (λ after is. right laws clean i audits steps after is)

-- what the answer is
pub some_answer : (steps left : List CertStep) (counts : List AuditCount) → 1 ≤ length left → answer_by steps counts left ≡ No (number_of steps left)
some_answer steps [] counts le = absurd (omega arith)
some_answer steps (s ∷ left) counts le = refl

pub answer_more : (steps : List CertStep) (at : ℕ) (counts : List AuditCount) (k : ℕ) → at < length steps → k ≡ number_of steps (drop at steps) → No k ≡ answer_by steps counts (drop at steps)
answer_more steps at counts k lt is = ap No is ∙ sym (some_answer steps (drop at steps) counts (omega (arith, length-drop at steps, lt)))

pub answer_end : (steps : List CertStep) (at : ℕ) (counts : List AuditCount) → length steps ≤ at → Yes counts ≡ answer_by steps counts (drop at steps)
answer_end steps at counts le = sym (ap (answer_by steps counts) (drop_all at steps le))

abbrev pub begin : List CertStep → List AuditAt → Progress
begin steps audits = record { left = steps; counts = zeros audits }

pub begin_is : (steps : List CertStep) (counts : List AuditCount) (audits : List AuditAt) → counts ≡ zeros audits → progress steps (record { at = 0; counts = counts }) ≡ begin steps audits
begin_is steps counts audits is = let with_counts : List AuditCount → Progress = λ cs. record { left = steps; counts = cs } in ap with_counts is

pub answers_ok : {A : Type 0} (image : Option Image) (audits : List AuditAt) (steps : List CertStep) (start c : StepCursor) (u : A) (found : CertAnswer) → progress steps start ≡ begin steps audits → found ≡ answer_by steps c.counts (drop c.at steps) →
    JudgesAs (λ i. roots_judged i audits) (progress steps start) (progress steps c) image (Ok u) → IfSome image (λ i. answer i audits steps ≡ found)
answers_ok None audits steps start c u found from is e = tt
answers_ok (Some i) audits steps start c u found from is e = ap (answer_of steps) (ap (roots_judged i audits) (sym from) ∙ e) ∙ sym is

pub answers_unfit : (A : Type 0) (image : Option Image) (audits : List AuditAt) (steps : List CertStep) (start c : StepCursor) (k : ℕ) → progress steps start ≡ begin steps audits → k ≡ number_of steps (drop c.at steps) →
    JudgesAs {A = A} (λ i. roots_judged i audits) (progress steps start) (progress steps c) image (Err Unfit) → IfSome image (λ i. answer i audits steps ≡ No k)
answers_unfit A None audits steps start c k from is e = tt
answers_unfit A (Some i) audits steps start c k from is e = ap (answer_of steps) (ap (roots_judged i audits) (sym from) ∙ e) ∙ ap No (sym is)

right_by : (i : Image) (audits : List AuditAt) (steps left : List CertStep) (counts : List AuditCount) → IsRight i audits (Yes counts) → IsRight i audits (answer_by steps counts left)
right_by i audits steps [] counts r = r
right_by i audits steps (s ∷ left) counts r = tt

pub ok_right : {A : Type 0} (image : Option Image) (laws : ShapesAreWalked) (clean : CleanWhereStanding) (audits : List AuditAt) (steps : List CertStep) (start c : StepCursor) (u : A) (found : CertAnswer) → progress steps start ≡ begin steps audits → found ≡ answer_by steps c.counts (drop c.at steps) →
    JudgesAs (λ i. roots_judged i audits) (progress steps start) (progress steps c) image (Ok u) → IfSome image (λ i. IsRight i audits found)
ok_right None laws clean audits steps start c u found from is e = tt
ok_right (Some i) laws clean audits steps start c u found from is e =
    subst (IsRight i audits) (sym is) (right_by i audits steps (drop c.at steps) c.counts (right laws clean i audits steps (progress steps c) (ap (roots_judged i audits) (sym from) ∙ e)))
