-- An audit of a plan, by its own number.
use Rattle.std.proofs.Common.{◌≡◌, ℕ, zero, suc, ◌+◌, ◌<◌, ◌≤◌, true, false, ◌&&◌, nat_eq, nat_lt, List, [], ◌∷◌, ◌++◌, length, slice_get, Some, refl, sym, ◌∙◌, ap, arith}
use Rattle.std.specs.Prelude.{Result, Ok, Err}
use Rattle.std.proofs.lemmas.Bool.{ne_eqb, eq-eqb, ltb-true, and_parts}
use Rattle.kc_memory.specs.Stopped.{Stopped}
use Rattle.kc_found.specs.Violations.{Violation}
use Rattle.kc_plan.specs.Events.{Event, Walk}
use Rattle.kc_plan.specs.Kept.{are_between, are_later}
use Rattle.kc_plan.specs.Planned.{AuditAt}
use Rattle.kc_plan.specs.Seen.{PathEnd, EndsAt, NullAt, World, path_of, in_turn, walked, at_element, checks_seen, entered, seen, container_of}

-- two ways to go on that agree behind number k
Agree : ℕ → (ℕ → ℕ → List Event) → (ℕ → ℕ → List Event) → Type 0
Agree k go run = (m x : ℕ) → k < m → go m x ≡ run m x

below_same : (k count : ℕ) (ms : List ℕ) (go run : ℕ → ℕ → List Event) (x : ℕ) → are_between k count ms ≡ true → Agree k go run → in_turn (λ m. go m x) ms ≡ in_turn (λ m. run m x) ms
unfolding Agree
below_same k count [] go run x are same = refl
below_same k count (m ∷ ms) go run x are same =
    let parts = and_parts (nat_lt k m && nat_lt m count) (are_between k count ms) are in
    let lt : k < m = ltb-true k m (and_parts (nat_lt k m) (nat_lt m count) parts.0).0 in
    ap (λ es. es ++ in_turn (λ n. go n x) ms) (same m x lt) ∙ ap (λ es. run m x ++ es) (below_same k count ms go run x parts.1 same)

elements_same : (w : World) (k count start : ℕ) (a : AuditAt) (go run : ℕ → ℕ → List Event) (nodes : List ℕ) → are_between k count a.each ≡ true → Agree k go run →
    in_turn (λ node. at_element w k a start go (container_of a.link node)) nodes ≡ in_turn (λ node. at_element w k a start run (container_of a.link node)) nodes
elements_same w k count start a go run [] are same = refl
elements_same w k count start a go run (node ∷ nodes) are same =
    ap (λ es. (checks_seen w (record { audit = k; start = start }) a.checks (container_of a.link node) ++ es) ++ in_turn (λ n. at_element w k a start go (container_of a.link n)) nodes) (below_same k count a.each go run (container_of a.link node) are same)
    ∙ ap (λ es. at_element w k a start run (container_of a.link node) ++ es) (elements_same w k count start a go run nodes are same)

walked_same : (w : World) (k count start : ℕ) (a : AuditAt) (go run : ℕ → ℕ → List Event) (there : Result (List ℕ) Violation) → are_between k count a.each ≡ true → Agree k go run → walked w k a start go there ≡ walked w k a start run there
walked_same w k count start a go run (Err v) are same = refl
walked_same w k count start a go run (Ok nodes) are same = ap (λ es. Walk k (length nodes) ∷ es) (elements_same w k count start a go run nodes are same)

entered_same : (w : World) (k count : ℕ) (a : AuditAt) (go run : ℕ → ℕ → List Event) (base : ℕ) (there : Result PathEnd Stopped) → are_between k count a.each ≡ true → Agree k go run → entered w k a go base there ≡ entered w k a run base there
entered_same w k count a go run base (Err s) are same = refl
entered_same w k count a go run base (Ok (NullAt place at)) are same = refl
entered_same w k count a go run base (Ok (EndsAt start)) are same = walked_same w k count start a go run (w.walks a.kind k start) are same

-- an audit that isn't the first is among those behind it
skips : (w : World) (a : AuditAt) (later : List AuditAt) (k m base : ℕ) → k < m → seen w (a ∷ later) k m base ≡ seen w later (suc k) m base
unfolding seen
skips w a later k m base lt = let other : nat_eq m k ≡ false = ne_eqb m k (λ e. omega (arith, e, lt)) in rw other refl

agrees : (w : World) (a : AuditAt) (later : List AuditAt) (k n : ℕ) → k ≤ n → Agree n (λ m x. seen w later (suc k) m x) (λ m x. seen w (a ∷ later) k m x)
unfolding Agree
agrees w a later k n le = λ m x lt. sym (skips w a later k m x (omega arith))

here : (w : World) (a : AuditAt) (later : List AuditAt) (k base : ℕ) → seen w (a ∷ later) k k base ≡ entered w k a (λ m x. seen w later (suc k) m x) base (w.paths (path_of a.start) base)
unfolding seen
here w a later k base = let same : nat_eq k k ≡ true = eq-eqb k k refl in rw same refl

-- what an audit names lies behind it
pub between_at : (audits : List AuditAt) (k i count : ℕ) (a : AuditAt) → slice_get audits i ≡ Some a → are_later k count audits ≡ true → are_between (k + i) count a.each ≡ true
between_at [] k i count a is are = let none : ⊥ = cc in absurd none
between_at (b ∷ later) k zero count a is are =
    let number : k + zero ≡ k = omega arith in
    let same : b ≡ a = cc in
    rw (number, ← same) (and_parts (are_between k count b.each) (are_later (suc k) count later) are).0
between_at (b ∷ later) k (suc i) count a is are =
    let number : k + suc i ≡ suc k + i = omega arith in
    rw number (between_at later (suc k) i count a is (and_parts (are_between k count b.each) (are_later (suc k) count later) are).1)

-- an audit of a list from its own number
pub unrolled : (w : World) (audits : List AuditAt) (k i base count : ℕ) (a : AuditAt) → slice_get audits i ≡ Some a → are_later k count audits ≡ true →
    seen w audits k (k + i) base ≡ entered w (k + i) a (λ m x. seen w audits k m x) base (w.paths (path_of a.start) base)
unrolled w [] k i base count a is are = let none : ⊥ = cc in absurd none
unrolled w (b ∷ later) k zero base count a is are =
    let number : k + zero ≡ k = omega arith in
    let same : b ≡ a = cc in
    let between = (and_parts (are_between k count b.each) (are_later (suc k) count later) are).0 in
    rw (number, ← same) (here w b later k base ∙ entered_same w k count b (λ m x. seen w later (suc k) m x) (λ m x. seen w (b ∷ later) k m x) base _ between (agrees w b later k k (omega arith)))
unrolled w (b ∷ later) k (suc i) base count a is are =
    let number : k + suc i ≡ suc k + i = omega arith in
    let rest = (and_parts (are_between k count b.each) (are_later (suc k) count later) are).1 in
    let there = unrolled w later (suc k) i base count a is rest in
    let between = between_at later (suc k) i count a is rest in
    rw number (skips w b later k (suc k + i) base (omega arith) ∙ there
    ∙ entered_same w (suc k + i) count a (λ m x. seen w later (suc k) m x) (λ m x. seen w (b ∷ later) k m x) base _ between (agrees w b later k (suc k + i) (omega arith)))
