-- What a run of a plan's audits is made of, part by part, and what follows a run.
use Rattle.std.specs.Prelude.{◌≡◌, ℕ, true, false, List, [], ◌∷◌, ◌++◌, slice_get, Option, Some, None, Result, Ok, Err}
use Rattle.kc_memory.specs.declared.space.Stop.{Stop}
use Rattle.kc_memory.specs.declared.words.Place.{Place}
use Rattle.kc_memory.specs.Image.{Image}
use Rattle.kc_memory.specs.Space.{AnswersAs}
use Rattle.kc_found.specs.declared.found.WalkStop.{WalkStop}
use Rattle.kc_found.specs.declared.verdict.AuditCount.{AuditCount}
use Rattle.kc_found.specs.Walks.{IsBroken, IsStopped}
use Rattle.kc_plan.specs.Events.{Event}
use Rattle.kc_plan.specs.Kept.{are_later}
use Rattle.kc_plan.specs.Planned.{AuditAt}
use Rattle.kc_plan.specs.Seen.{PathEnd, EndsAt, NullAt, World, at_element, checks_seen, container_of, is_optional, null_pointer, path_end, path_of, seen, walked, world}
use Rattle.kc_run.specs.Tally.{TalliesAs}

-- A part of a run: nothing, one part after another, an audit from a base, its walk from a start, or an element that this walk met.
pub data Part : Type 0 where
  Done : Part
  Then : Part → Part → Part
  Enter : (n base : ℕ) → Part
  Look : (n : ℕ) (a : AuditAt) (start : ℕ) → Part
  Element : (n : ℕ) (a : AuditAt) (start element : ℕ) → Part

-- a part for each thing, one after the other
abbrev pub in_order : {X : Type 0} → (X → Part) → List X → Part
in_order part [] = Done
in_order part (x ∷ xs) = Then (part x) (in_order part xs)

-- the elements of nodes, the audits below an element, and the root audits
abbrev pub elements_part : ℕ → AuditAt → ℕ → List ℕ → Part
elements_part n a start nodes = in_order (λ node. Element n a start (container_of a.link node)) nodes

abbrev pub below_part : List ℕ → ℕ → Part
below_part ms element = in_order (λ m. Enter m element) ms

abbrev pub roots_part : List (ℕ × ℕ) → Part
roots_part rs = in_order (λ (r : ℕ × ℕ). Enter r.0 r.1) rs

-- what is seen of a part
abbrev pub events : World → List AuditAt → Part → List Event
events w audits Done = []
events w audits (Then p q) = events w audits p ++ events w audits q
events w audits (Enter n base) = seen w audits 0 n base
events w audits (Look n a start) = walked w n a start (λ m base. seen w audits 0 m base) (w.walks a.kind n start)
events w audits (Element n a start element) = at_element w n a start (λ m base. seen w audits 0 m base) element

-- what a part of a run makes of what was before it
abbrev pub Relation : Type 0 → Type 1
Relation X = Option Image → List AuditAt → Part → X → X → Result (Unit {0}) WalkStop → Type 0

-- the counts before and after it are those before and after what is seen
abbrev pub Tallied : Relation (List AuditCount)
Tallied image audits part before after r = TalliesAs (λ i. events (world i) audits part) before after image r

-- this is audit n, which names later ones alone, and its path leads so from a base
pub record Begins (image : Option Image) (audits : List AuditAt) (n : ℕ) (a : AuditAt) (base : ℕ) (there : Result PathEnd Stop) : Type 0 where
  pub count : ℕ
  pub at : slice_get audits n ≡ Some a
  pub later : are_later 0 count audits ≡ true
  pub leads : AnswersAs (λ i. path_end i base (path_of a.start).hops (path_of a.start).byte) image there

-- the checks of an element come to this
abbrev pub Checks : Option Image → ℕ → AuditAt → ℕ → ℕ → Result (Unit {0}) WalkStop → Type 0
Checks image n a start element r =
    (counts : List AuditCount) → TalliesAs (λ i. checks_seen (world i) (record { audit = n; start = start }) a.checks element) counts counts image r

-- Parts follow one another, a path leads to its walk, and checks stand before what lies below. A violation ends all.
pub record Follows {X : Type 0} (Means : Relation X) : Type 0 where
  pub done : (image : Option Image) (audits : List AuditAt) (x : X) → Means image audits Done x x (Ok tt)
  pub goes : (image : Option Image) (audits : List AuditAt) (p q : Part) (x y z : X) (r : Result (Unit {0}) WalkStop)
      → Means image audits p x y (Ok tt) → Means image audits q y z r → Means image audits (Then p q) x z r
  pub ends : (image : Option Image) (audits : List AuditAt) (p q : Part) (x y : X) (stop : WalkStop)
      → Means image audits p x y (Err stop) → Means image audits (Then p q) x y (Err stop)
  pub leads : (image : Option Image) (audits : List AuditAt) (n : ℕ) (a : AuditAt) (base start : ℕ) (x y : X) (r : Result (Unit {0}) WalkStop)
      → Begins image audits n a base (Ok (EndsAt start)) → Means image audits (Look n a start) x y r → Means image audits (Enter n base) x y r
  pub skips : (image : Option Image) (audits : List AuditAt) (n : ℕ) (a : AuditAt) (base : ℕ) (place : Place) (at : ℕ) (x : X)
      → Begins image audits n a base (Ok (NullAt place at)) → is_optional a.start ≡ true → Means image audits (Enter n base) x x (Ok tt)
  pub breaks : (image : Option Image) (audits : List AuditAt) (n : ℕ) (a : AuditAt) (base : ℕ) (place : Place) (at : ℕ) (x : X) (stop : WalkStop)
      → Begins image audits n a base (Ok (NullAt place at)) → is_optional a.start ≡ false → IsBroken stop (null_pointer (record { audit = n; start = base }) place at)
      → Means image audits (Enter n base) x x (Err stop)
  pub misses : (image : Option Image) (audits : List AuditAt) (n : ℕ) (a : AuditAt) (base : ℕ) (cause : Stop) (x : X) (stop : WalkStop)
      → Begins image audits n a base (Err cause) → IsStopped stop (record { audit = n; start = base }) None cause → Means image audits (Enter n base) x x (Err stop)
  pub passes : (image : Option Image) (audits : List AuditAt) (n : ℕ) (a : AuditAt) (start element : ℕ) (x y : X) (r : Result (Unit {0}) WalkStop)
      → Checks image n a start element (Ok tt) → Means image audits (below_part a.each element) x y r → Means image audits (Element n a start element) x y r
  pub fails : (image : Option Image) (audits : List AuditAt) (n : ℕ) (a : AuditAt) (start element : ℕ) (x : X) (stop : WalkStop)
      → Checks image n a start element (Err stop) → Means image audits (Element n a start element) x x (Err stop)
