-- The counts of a run follow it, part by part.
use Rattle.std.proofs.Common.{◌≡◌, ℕ, ◌+◌, true, List, [], ◌∷◌, ◌++◌, length, slice_get, Option, Some, None, refl, sym, ◌∙◌, ap, arith}
use Rattle.std.specs.Prelude.{Result, Ok, Err}
use Rattle.kc_memory.specs.declared.space.Stop.TheVariants as stops
use Rattle.kc_memory.specs.Image.{Image}
use Rattle.kc_memory.specs.Stopped.{Stopped}
use Rattle.kc_found.specs.declared.found.WalkStop.{WalkStop}
use Rattle.kc_found.specs.declared.found.WalkStop.TheVariants as ends
use Rattle.kc_found.specs.declared.verdict.AuditCount.{AuditCount}
use Rattle.kc_found.specs.Violations.{Violation, missed}
use Rattle.kc_found.specs.Walks.{IsBroken, IsWalk, WalksAs}
use Rattle.kc_kinds.specs.Structures.{nodes_of}
use Rattle.kc_plan.specs.Events.{Event, Wrong}
use Rattle.kc_plan.specs.Kept.{are_later}
use Rattle.kc_plan.specs.Planned.{AuditAt}
use Rattle.kc_plan.specs.Seen.{PathEnd, World, all_seen, checks_seen, container_of, entered, in_turn, null_pointer, path_end, path_of, roots, seen, walked, world}
use Rattle.kc_run.specs.Parts.{Element, Enter, Follows, Look, Part, Tallied, elements_part, events, in_order, roots_part}
use Rattle.kc_run.specs.Tally.{TalliesAs, added, tally}
use Rattle.kc_run.proofs.Counting.{tally_goes, tally_stops}
use Rattle.kc_run.proofs.Unrolling.{unrolled}

-- what is seen of parts, one after the other
pub events_in : {X : Type 0} (w : World) (audits : List AuditAt) (part : X → Part) (xs : List X) → events w audits (in_order part xs) ≡ in_turn (λ x. events w audits (part x)) xs
events_in w audits part [] = refl
events_in w audits part (x ∷ xs) = ap (λ es. events w audits (part x) ++ es) (events_in w audits part xs)

-- other events that are the same
by_same : (before after : List AuditCount) (es us : List Event) (r : Result (Unit {0}) WalkStop) → es ≡ us → IsWalk (λ u. after) (tally before us) r → IsWalk (λ u. after) (tally before es) r
by_same before after es us r same e = rw same e

-- one lot of events after another, or the first stops
goes : (es us : List Event) (x y z : List AuditCount) (r : Result (Unit {0}) WalkStop) → tally x es ≡ Ok y → IsWalk (λ u. z) (tally y us) r → IsWalk (λ u. z) (tally x (es ++ us)) r
goes es us x y z r one e = rw (tally_goes x y es us one) e

halts : (es us : List Event) (x y z : List AuditCount) (stop : WalkStop) → IsWalk {A = Unit {0}} (λ u. y) (tally x es) (Err stop) → IsWalk {A = Unit {0}} (λ u. z) (tally x (es ++ us)) (Err stop)
halts es us x y z (ends.Broken v) e = tally_stops x v es us e
halts es us x y z ends.Fault e = tt
halts es us x y z ends.NoMemory e = tt

-- a violation alone
broken : (es : List Event) (v : Violation) (x : List AuditCount) (stop : WalkStop) → es ≡ Wrong v ∷ [] → IsBroken stop v → IsWalk {A = Unit {0}} (λ u. x) (tally x es) (Err stop)
broken es v x (ends.Broken w) same e = rw same (ap Err (sym e))
broken es v x ends.Fault same e = absurd e
broken es v x ends.NoMemory same e = tt

-- an audit that begins so
entering : (i : Image) (audits : List AuditAt) (count n : ℕ) (a : AuditAt) (base : ℕ) (there : Result PathEnd Stopped) → slice_get audits n ≡ Some a → are_later 0 count audits ≡ true → path_end i base (path_of a.start).hops (path_of a.start).byte ≡ there →
    seen (world i) audits 0 n base ≡ entered (world i) n a (λ m x. seen (world i) audits 0 m x) base there
entering i audits count n a base there is are leads =
    let number : 0 + n ≡ n = omega arith in
    let whole : seen (world i) audits 0 n base ≡ entered (world i) n a (λ m x. seen (world i) audits 0 m x) base (path_end i base (path_of a.start).hops (path_of a.start).byte) = rw number at (unrolled (world i) audits 0 n base count a is are) in
    whole ∙ ap (λ r. entered (world i) n a (λ m x. seen (world i) audits 0 m x) base r) leads

pub tallied : Follows Tallied
tallied = record {
  done = elim [ None ↦ λ audits x. tt | Some i ↦ λ audits x. refl ];
  goes = elim [ None ↦ λ audits p q x y z r one e. tt | Some i ↦ λ audits p q x y z r one e. goes (events (world i) audits p) (events (world i) audits q) x y z r one e ];
  ends = elim [ None ↦ λ audits p q x y stop e. tt | Some i ↦ λ audits p q x y stop e. halts (events (world i) audits p) (events (world i) audits q) x y y stop e ];
  leads = elim [
    | None ↦ λ audits n a base start x y r b e. tt
    | Some i ↦ λ audits n a base start x y r b e. by_same x y _ _ r (entering i audits b.count n a base _ b.at b.later b.leads) e
  ];
  skips = elim [
    | None ↦ λ audits n a base place at x b may. tt
    | Some i ↦ λ audits n a base place at x b may. rw (entering i audits b.count n a base _ b.at b.later b.leads, may) refl
  ];
  breaks = elim [
    | None ↦ λ audits n a base place at x stop b may e. tt
    | Some i ↦ λ audits n a base place at x stop b may e. broken (seen (world i) audits 0 n base) (null_pointer (record { audit = n; start = base }) place at) x stop (rw (entering i audits b.count n a base _ b.at b.later b.leads, may) refl) e
  ];
  misses = elim [
    | None ↦ λ audits n a base cause x stop b e. tt
    | Some i ↦ λ audits n a base. elim [
      | stops.Miss s ↦ λ x stop b e. broken (seen (world i) audits 0 n base) (missed (record { audit = n; start = base }) None s) x stop (entering i audits b.count n a base _ b.at b.later b.leads) e
      | stops.Fault ↦ λ x stop b e. rw e tt
    ]
  ];
  passes = elim [
    | None ↦ λ audits n a start element x y r c e. tt
    | Some i ↦ λ audits n a start element x y r c e. goes (checks_seen (world i) (record { audit = n; start = start }) a.checks element) _ x x y r (c x)
        (by_same x y _ _ r (sym (events_in (world i) audits (λ m. Enter m element) a.each)) e)
  ];
  fails = elim [
    | None ↦ λ audits n a start element x stop c. tt
    | Some i ↦ λ audits n a start element x stop c. halts (checks_seen (world i) (record { audit = n; start = start }) a.checks element) _ x x x stop (c x)
  ];
}

-- a walk, and what lies below its nodes
pub look_goes : (image : Option Image) (audits : List AuditAt) (a : AuditAt) (n start size : ℕ) (x y z : List AuditCount) (nodes : List ℕ) (r : Result (Unit {0}) WalkStop) → size ≡ length nodes → y ≡ added x n size →
    WalksAs (λ (ns : List ℕ). ns) (λ i. nodes_of i a.kind n start) image (Ok nodes) → Tallied image audits (elements_part n a start nodes) y z r → Tallied image audits (Look n a start) x z r
look_goes None audits a n start size x y z nodes r sized counts is e = tt
look_goes (Some i) audits a n start size x y z nodes r sized counts is e =
    let element = λ (node : ℕ). events (world i) audits (Element n a start (container_of a.link node)) in
    let whole : tally x (events (world i) audits (Look n a start)) ≡ tally y (events (world i) audits (elements_part n a start nodes)) =
    ap (λ w. tally x (walked (world i) n a start (λ m base. seen (world i) audits 0 m base) w)) is
    ∙ ap (λ cs. tally cs (in_turn element nodes)) (sym (counts ∙ ap (added x n) sized))
    ∙ ap (tally y) (sym (events_in (world i) audits (λ node. Element n a start (container_of a.link node)) nodes)) in
    rw whole e

-- or its stop
pub look_stops : (B : Type 0) (view : B → List ℕ) (image : Option Image) (audits : List AuditAt) (a : AuditAt) (n start : ℕ) (x : List AuditCount) (stop : WalkStop) → WalksAs view (λ i. nodes_of i a.kind n start) image (Err stop) → Tallied image audits (Look n a start) x x (Err stop)
look_stops B view None audits a n start x stop e = tt
look_stops B view (Some i) audits a n start x (ends.Broken v) e = rw e refl
look_stops B view (Some i) audits a n start x ends.Fault e = tt
look_stops B view (Some i) audits a n start x ends.NoMemory e = tt

-- the whole run
pub all_tallied : (image : Option Image) (audits : List AuditAt) (x y : List AuditCount) (r : Result (Unit {0}) WalkStop) → Tallied image audits (roots_part (roots 0 audits)) x y r → TalliesAs (λ i. all_seen (world i) audits) x y image r
all_tallied None audits x y r e = tt
all_tallied (Some i) audits x y r e = by_same x y _ _ r (sym (events_in (world i) audits (λ (b : ℕ × ℕ). Enter b.0 b.1) (roots 0 audits))) e
