-- A draft follows a run, part by part.
use Rattle.std.proofs.Common.{◌≡◌, ℕ, ◌+◌, true, List, [], ◌∷◌, ◌++◌, length, slice_get, Option, Some, None, refl, sym, ◌∙◌, ap, arith, subst, append_assoc, append-nil}
use Rattle.std.specs.Prelude.{Result, Ok, Err, IfSome, is_none, if◌then◌else◌}
use Rattle.kc_memory.specs.declared.words.Place.{Place}
use Rattle.kc_memory.specs.Image.{Image}
use Rattle.kc_memory.specs.Stopped.{Stopped}
use Rattle.kc_found.specs.declared.found.WalkStop.{WalkStop}
use Rattle.kc_found.specs.declared.found.WalkStop.TheVariants as ends
use Rattle.kc_found.specs.declared.verdict.AuditCount.{AuditCount}
use Rattle.kc_found.specs.Trials.{and_then}
use Rattle.kc_found.specs.Violations.{Violation}
use Rattle.kc_found.specs.Walks.{WalksAs}
use Rattle.kc_kinds.specs.declared.kind.Kind.{Kind}
use Rattle.kc_kinds.specs.Structures.{nodes_of}
use Rattle.kc_plan.specs.Events.{Event}
use Rattle.kc_plan.specs.Kept.{are_later}
use Rattle.kc_plan.specs.Planned.{AuditAt}
use Rattle.kc_plan.specs.Seen.{PathEnd, EndsAt, NullAt, all_seen, at_element, below, checks_seen, container_of, in_turn, is_optional, roots, seen, world}
use Rattle.kc_run.specs.Parts.{Begins, Done, Element, Enter, Follows, Look, Part, Tallied, Then, below_part, elements_part, events, in_order, roots_part}
use Rattle.kc_run.specs.Tally.{added, tally, zeros}
use Rattle.kc_run.proofs.Tallying.{all_tallied, events_in, look_goes, look_stops}
use Rattle.kc_run.proofs.Counting.{ends_broken, ends_clean}
use Rattle.kc_cert.specs.declared.text.certificate.CertStep.{CertStep}
use Rattle.kc_cert.specs.declared.certifying.issue.CertStop.TheVariants.{Broken}
use Rattle.kc_cert.specs.declared.certifying.pass.Draft.{Draft}
use Rattle.kc_cert.specs.Rechecking.Answers.{JudgesAs}
use Rattle.kc_cert.specs.Fits.Fits.{all_hold, checks_hold, fits}
use Rattle.kc_cert.specs.Rechecking.Certificates.{Judged, Progress, after_walk, answer_of, at, each_judged, entry_judged, judged, judging, nodes_judged, roots_judged}
use Rattle.kc_cert.specs.Certifying.Certified.{CertifiesAs, Drafts, Made, ShapesAs}
use Rattle.kc_cert.specs.Fits.Walked.{ShapesAreWalked}
use Rattle.kc_cert.specs.Fits.Shapes.{nodes_in}
use Rattle.kc_cert.proofs.RecheckingLemmas.Judging.{under}
use Rattle.kc_cert.proofs.RecheckingLemmas.Fitting.{both_true, if_so, step_fits, tally_parts}
use Rattle.kc_cert.proofs.RecheckingLemmas.Unrolling.{end_at, unrolled}
use Rattle.kc_cert.proofs.FitsLemmas.Checks.{right_seen}

-- what parts take, one after the other
judging_in : {X : Type 0} (i : Image) (audits : List AuditAt) (part : X → Part) (xs : List X) (p : Progress) → judging i audits (in_order part xs) p ≡ each_judged (λ x. judging i audits (part x)) xs p
judging_in i audits part [] p = refl
judging_in i audits part (x ∷ xs) p = by_first (judging i audits (part x) p) (λ q. judging_in i audits part xs q)
  where
    by_first : (r : Judged) → ((q : Progress) → judging i audits (in_order part xs) q ≡ each_judged (λ y. judging i audits (part y)) xs q) → and_then r (judging i audits (in_order part xs)) ≡ and_then r (each_judged (λ y. judging i audits (part y)) xs)
    by_first (Ok q) more = more q
    by_first (Err left) more = refl

-- one more lot of steps
added_on : (made l m now after : List CertStep) → now ≡ made ++ l → after ≡ now ++ m → after ≡ made ++ (l ++ m)
added_on made l m now after is more = more ∙ ap (λ (ss : List CertStep). ss ++ m) is ∙ append_assoc made l m

then_judged : (image : Option Image) (audits : List AuditAt) (p q : Part) (x y z : Progress) → JudgesAs {A = Unit {0}} (λ i. judging i audits p) x y image (Ok tt) → JudgesAs {A = Unit {0}} (λ i. judging i audits q) y z image (Ok tt) →
    JudgesAs {A = Unit {0}} (λ i. judging i audits (Then p q)) x z image (Ok tt)
then_judged None audits p q x y z one two = tt
then_judged (Some i) audits p q x y z one two = ap (λ r. and_then r (judging i audits q)) one ∙ two

made_done : (image : Option Image) (audits : List AuditAt) (x : Draft) (rest : List CertStep) → JudgesAs {A = Unit {0}} (λ i. judging i audits Done) (at rest x.counts) (at rest x.counts) image (Ok tt)
made_done None audits x rest = tt
made_done (Some i) audits x rest = refl

made_goes : (image : Option Image) (audits : List AuditAt) (p q : Part) (x y z : Draft) (r : Result (Unit {0}) WalkStop) → Made image audits p x y (Ok tt) → Made image audits q y z r → Made image audits (Then p q) x z r
made_goes image audits p q x y z (Err stop) one two = tt
made_goes image audits p q x y z (Ok u) one two = (
  one.0 ++ two.0,
  added_on x.made one.0 two.0 y.made z.made one.1 two.1,
  λ rest. subst (λ (ss : List CertStep). JudgesAs {A = Unit {0}} (λ i. judging i audits (Then p q)) (at ss x.counts) (at rest z.counts) image (Ok tt)) (sym (append_assoc one.0 two.0 rest))
      (then_judged image audits p q (at (one.0 ++ (two.0 ++ rest)) x.counts) (at (two.0 ++ rest) y.counts) (at rest z.counts) (one.2 (two.0 ++ rest)) (two.2 rest)),
)

-- an audit that begins so
entering : (i : Image) (audits : List AuditAt) (count n : ℕ) (a : AuditAt) (base : ℕ) (p : Progress) (there : Result PathEnd Stopped) → slice_get audits n ≡ Some a → are_later 0 count audits ≡ true → end_at i a base ≡ there →
    judged i audits 0 n base p ≡ entry_judged i n a (under i audits) there p
entering i audits count n a base p there is are leads =
    let number : 0 + n ≡ n = omega arith in
    let whole : judged i audits 0 n base p ≡ entry_judged i n a (under i audits) (end_at i a base) p = rw number at (unrolled i audits 0 n base count a p is are) in
    whole ∙ ap (λ r. entry_judged i n a (under i audits) r p) leads

enters : (image : Option Image) (audits : List AuditAt) (n : ℕ) (a : AuditAt) (base start : ℕ) (x y : Progress) → Begins image audits n a base (Ok (EndsAt start)) → JudgesAs {A = Unit {0}} (λ i. judging i audits (Look n a start)) x y image (Ok tt) →
    JudgesAs {A = Unit {0}} (λ i. judging i audits (Enter n base)) x y image (Ok tt)
enters None audits n a base start x y b e = tt
enters (Some i) audits n a base start x y b e = entering i audits b.count n a base x (Ok (EndsAt start)) b.at b.later b.leads ∙ e

skipped : (image : Option Image) (audits : List AuditAt) (n : ℕ) (a : AuditAt) (base : ℕ) (place : Place) (there : ℕ) (x : Progress) → Begins image audits n a base (Ok (NullAt place there)) → is_optional a.start ≡ true →
    JudgesAs {A = Unit {0}} (λ i. judging i audits (Enter n base)) x x image (Ok tt)
skipped None audits n a base place there x b may = tt
skipped (Some i) audits n a base place there x b may = entering i audits b.count n a base x (Ok (NullAt place there)) b.at b.later b.leads ∙ ap (λ b. if b then Ok x else Err x.left) may

passed : (image : Option Image) (audits : List AuditAt) (n : ℕ) (a : AuditAt) (start element : ℕ) (x y : Progress) → JudgesAs {A = Unit {0}} (λ i. judging i audits (below_part a.each element)) x y image (Ok tt) → JudgesAs {A = Unit {0}} (λ i. judging i audits (Element n a start element)) x y image (Ok tt)
passed None audits n a start element x y e = tt
passed (Some i) audits n a start element x y e = sym (judging_in i audits (λ m. Enter m element) a.each x) ∙ e

made_leads : (image : Option Image) (audits : List AuditAt) (n : ℕ) (a : AuditAt) (base start : ℕ) (x y : Draft) (r : Result (Unit {0}) WalkStop) → Begins image audits n a base (Ok (EndsAt start)) → Made image audits (Look n a start) x y r → Made image audits (Enter n base) x y r
made_leads image audits n a base start x y (Err stop) b m = tt
made_leads image audits n a base start x y (Ok u) b m = (m.0, m.1, λ rest. enters image audits n a base start (at (m.0 ++ rest) x.counts) (at rest y.counts) b (m.2 rest))

made_passes : (image : Option Image) (audits : List AuditAt) (n : ℕ) (a : AuditAt) (start element : ℕ) (x y : Draft) (r : Result (Unit {0}) WalkStop) → Made image audits (below_part a.each element) x y r → Made image audits (Element n a start element) x y r
made_passes image audits n a start element x y (Err stop) m = tt
made_passes image audits n a start element x y (Ok u) m = (m.0, m.1, λ rest. passed image audits n a start element (at (m.0 ++ rest) x.counts) (at rest y.counts) (m.2 rest))

pub made : Follows Made
made = record {
  done = λ image audits x. ([], sym (append-nil x.made), made_done image audits x);
  goes = made_goes;
  ends = λ image audits p q x y stop m. tt;
  leads = made_leads;
  skips = λ image audits n a base place there x b may. ([], sym (append-nil x.made), λ rest. skipped image audits n a base place there (at rest x.counts) b may);
  breaks = λ image audits n a base place there x stop b may is. tt;
  misses = λ image audits n a base cause x stop b is. tt;
  passes = λ image audits n a start element x y r c m. made_passes image audits n a start element x y r m;
  fails = λ image audits n a start element x stop c. tt;
}

-- where a walk stops, its violation is told
pub stopped_by : (image : Option Image) (kind : Kind) (n start : ℕ) (stop : WalkStop) → ShapesAs kind n start image (Err stop) → WalksAs (λ (ns : List ℕ). ns) (λ i. nodes_of i kind n start) image (Err stop)
stopped_by None kind n start stop e = tt
stopped_by (Some i) kind n start (ends.Broken v) e = e
stopped_by (Some i) kind n start ends.Fault e = tt
stopped_by (Some i) kind n start ends.NoMemory e = tt

-- where all that is seen of elements is counted, their checks hold
held : (i : Image) (n : ℕ) (a : AuditAt) (start : ℕ) (see : ℕ → ℕ → List Event) (nodes : List ℕ) (before after : List AuditCount) → tally before (in_turn (λ node. at_element (world i) n a start see (container_of a.link node)) nodes) ≡ Ok after → all_hold i n a start nodes ≡ true
held i n a start see [] before after e = refl
held i n a start see (node ∷ nodes) before after e =
    let element = container_of a.link node in
    let checks = checks_seen (world i) (record { audit = n; start = start }) a.checks element in
    let p = tally_parts before after (at_element (world i) n a start see element) (in_turn (λ x. at_element (world i) n a start see (container_of a.link x)) nodes) e in
    let q = tally_parts before p.0 checks (below a see element) p.1 in
    both_true (checks_hold i n a start element) (all_hold i n a start nodes) (ap is_none (right_seen before q.0 checks q.1)) (held i n a start see nodes p.0 after p.2)

counted_all : (image : Option Image) (audits : List AuditAt) (part : Part) (before after : List AuditCount) → Tallied image audits part before after (Ok tt) → IfSome image (λ i. tally before (events (world i) audits part) ≡ Ok after)
counted_all None audits part before after e = tt
counted_all (Some i) audits part before after e = e

-- the step of a walk
abbrev pub step_of : ℕ → ℕ → List (List ℕ) → CertStep
step_of n start lists = record { audit = n; start = start; lists = lists }

fit_by : (image : Option Image) (audits : List AuditAt) (a : AuditAt) (n start : ℕ) (lists : List (List ℕ)) (nodes : List ℕ) (before after : List AuditCount) → nodes ≡ nodes_in a.kind lists → ShapesAs a.kind n start image (Ok lists) →
    IfSome image (λ i. tally before (events (world i) audits (elements_part n a start nodes)) ≡ Ok after) → IfSome image (λ i. fits i n a start (step_of n start lists) ≡ true)
fit_by None audits a n start lists nodes before after same shape e = tt
fit_by (Some i) audits a n start lists nodes before after same shape e =
    step_fits i n a start lists shape (ap (all_hold i n a start) (sym same) ∙ held i n a start (λ m base. seen (world i) audits 0 m base) nodes before after (ap (tally before) (sym (events_in (world i) audits (λ node. Element n a start (container_of a.link node)) nodes)) ∙ e))

step_judged : (image : Option Image) (audits : List AuditAt) (a : AuditAt) (n start : ℕ) (lists : List (List ℕ)) (nodes : List ℕ) (left : List CertStep) (counts : List AuditCount) (after : Progress) → nodes ≡ nodes_in a.kind lists →
    IfSome image (λ i. fits i n a start (step_of n start lists) ≡ true) → JudgesAs {A = Unit {0}} (λ i. judging i audits (elements_part n a start nodes)) (at left (added counts n (length nodes))) after image (Ok tt) →
    JudgesAs {A = Unit {0}} (λ i. judging i audits (Look n a start)) (at (step_of n start lists ∷ left) counts) after image (Ok tt)
step_judged None audits a n start lists nodes left counts after same fit e = tt
step_judged (Some i) audits a n start lists nodes left counts after same fit e =
    if_so (fits i n a start (step_of n start lists)) (nodes_judged a (under i audits) (nodes_in a.kind lists) (after_walk left counts n (nodes_in a.kind lists))) (Err (step_of n start lists ∷ left)) fit
    ∙ ap (λ (ns : List ℕ). nodes_judged a (under i audits) ns (after_walk left counts n ns)) (sym same)
    ∙ sym (judging_in i audits (λ node. Element n a start (container_of a.link node)) nodes (at left (added counts n (length nodes)))) ∙ e

-- the nodes of a shape are those of the walk
walked_by : ShapesAreWalked → (image : Option Image) (kind : Kind) (n start : ℕ) (lists : List (List ℕ)) (nodes : List ℕ) → nodes ≡ nodes_in kind lists → ShapesAs kind n start image (Ok lists) → WalksAs (λ (ns : List ℕ). ns) (λ i. nodes_of i kind n start) image (Ok nodes)
walked_by law None kind n start lists nodes same shape = tt
walked_by law (Some i) kind n start lists nodes same shape = law i kind n start lists shape ∙ ap Ok (sym same)

-- the step is added, and what lies below its nodes comes after it
look_makes : (image : Option Image) (audits : List AuditAt) (a : AuditAt) (n start : ℕ) (lists : List (List ℕ)) (nodes : List ℕ) (before more after : Draft) (r : Result (Unit {0}) WalkStop) → nodes ≡ nodes_in a.kind lists →
    more.made ≡ before.made ++ step_of n start lists ∷ [] → more.counts ≡ added before.counts n (length nodes) → ShapesAs a.kind n start image (Ok lists) → Drafts image audits (elements_part n a start nodes) more after r → Made image audits (Look n a start) before after r
look_makes image audits a n start lists nodes before more after (Err stop) same adds counts shape d = tt
look_makes image audits a n start lists nodes before more after (Ok u) same adds counts shape d =
    let m = d.1 in
    let fit = fit_by image audits a n start lists nodes more.counts after.counts same shape (counted_all image audits (elements_part n a start nodes) more.counts after.counts d.0) in (
      step_of n start lists ∷ m.0,
      added_on before.made (step_of n start lists ∷ []) m.0 more.made after.made adds m.1,
      λ rest. step_judged image audits a n start lists nodes (m.0 ++ rest) before.counts (at rest after.counts) same fit
          (subst (λ (cs : List AuditCount). JudgesAs {A = Unit {0}} (λ i. judging i audits (elements_part n a start nodes)) (at (m.0 ++ rest) cs) (at rest after.counts) image (Ok tt)) counts (m.2 rest)),
    )

pub walk_drafts : ShapesAreWalked → (image : Option Image) (audits : List AuditAt) (a : AuditAt) (n start size : ℕ) (lists : List (List ℕ)) (nodes : List ℕ) (before more after : Draft) (r : Result (Unit {0}) WalkStop) → nodes ≡ nodes_in a.kind lists →
    more.made ≡ before.made ++ step_of n start lists ∷ [] → size ≡ length nodes → more.counts ≡ added before.counts n size → ShapesAs a.kind n start image (Ok lists) → Drafts image audits (elements_part n a start nodes) more after r → Drafts image audits (Look n a start) before after r
walk_drafts law image audits a n start size lists nodes before more after r same adds sized counts shape d = (
  look_goes image audits a n start size before.counts more.counts after.counts nodes r sized counts (walked_by law image a.kind n start lists nodes same shape) d.0,
  look_makes image audits a n start lists nodes before more after r same adds (counts ∙ ap (added before.counts n) sized) shape d,
)

pub walk_stops : (image : Option Image) (audits : List AuditAt) (a : AuditAt) (n start : ℕ) (x : Draft) (stop : WalkStop) → ShapesAs a.kind n start image (Err stop) → Drafts image audits (Look n a start) x x (Err stop)
walk_stops image audits a n start x stop e = (look_stops (List ℕ) (λ ns. ns) image audits a n start x.counts stop (stopped_by image a.kind n start stop e), tt)

pub no_memory : (image : Option Image) (audits : List AuditAt) (part : Part) (x y : Draft) → Drafts image audits part x y (Err ends.NoMemory)
no_memory None audits part x y = (tt, tt)
no_memory (Some i) audits part x y = (tt, tt)

-- the whole certificate
pub certified_by : (image : Option Image) (audits : List AuditAt) (before after : Draft) → before.made ≡ [] → before.counts ≡ zeros audits → Drafts image audits (roots_part (roots 0 audits)) before after (Ok tt) → CertifiesAs image audits (Ok after.made)
certified_by None audits before after none zero d = tt
certified_by (Some i) audits before after none zero d =
    let m = d.1 in
    let whole : after.made ≡ m.0 ++ [] = m.1 ∙ ap (λ (ss : List CertStep). ss ++ m.0) none ∙ sym (append-nil m.0) in
    let begin : at after.made (zeros audits) ≡ at (m.0 ++ []) before.counts = ap (λ (ss : List CertStep). at ss (zeros audits)) whole ∙ ap (at (m.0 ++ [])) (sym zero) in
    let judge : roots_judged i audits (at (m.0 ++ []) before.counts) ≡ Ok (at [] after.counts) = sym (judging_in i audits (λ (r : ℕ × ℕ). Enter r.0 r.1) (roots 0 audits) (at (m.0 ++ []) before.counts)) ∙ m.2 [] in (
      after.counts,
      ap (answer_of after.made) (ap (roots_judged i audits) begin ∙ judge),
      ends_clean (Some i) audits after.counts (tt {0}) (subst (λ (cs : List AuditCount). tally cs (all_seen (world i) audits) ≡ Ok after.counts) zero (all_tallied (Some i) audits before.counts after.counts (Ok tt) d.0)),
    )

pub broken_by : (image : Option Image) (audits : List AuditAt) (before after : Draft) (v : Violation) → before.counts ≡ zeros audits → Drafts image audits (roots_part (roots 0 audits)) before after (Err (ends.Broken v)) → CertifiesAs image audits (Err (Broken v))
broken_by None audits before after v zero d = tt
broken_by (Some i) audits before after v zero d = ends_broken (Unit {0}) (Some i) audits after.counts v (subst (λ (cs : List AuditCount). tally cs (all_seen (world i) audits) ≡ Err v) zero (all_tallied (Some i) audits before.counts after.counts (Err (ends.Broken v)) d.0))
