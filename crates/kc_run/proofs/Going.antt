-- Things that are seen one after the other, where the memory is told or not, and the numbers of audits.
use Rattle.std.proofs.Common.{◌≡◌, ℕ, zero, suc, ◌+◌, ◌<◌, true, ◌&&◌, nat_lt, List, [], ◌∷◌, ◌++◌, drop, slice_get, Option, Some, None, ◌∙◌, ap, arith}
use Rattle.std.specs.Prelude.{Ok, Err, IfSome}
use Rattle.std.proofs.lemmas.Bool.{and_parts, ltb-true}
use Rattle.kc_memory.specs.Image.{Image}
use Rattle.kc_found.specs.declared.found.WalkStop.{WalkStop}
use Rattle.kc_found.specs.declared.found.WalkStop.TheVariants as ends
use Rattle.kc_found.specs.declared.verdict.AuditCount.{AuditCount}
use Rattle.kc_plan.specs.Events.{Event}
use Rattle.kc_plan.specs.Kept.{are_between}
use Rattle.kc_plan.specs.Planned.{AuditAt}
use Rattle.kc_plan.specs.Seen.{in_turn, root_of, roots}
use Rattle.kc_run.specs.Tally.{TalliesAs, tally}
use Rattle.kc_run.proofs.Counting.{tally_goes, tally_stops}

-- the counts after all, and after what is left, one thing after the other
abbrev pub Left : {X : Type 0} → Option Image → List AuditCount → (Image → List Event) → List AuditCount → (Image → X → List Event) → List X → Type 0
Left image before whole now see xs = IfSome image (λ i. tally before (whole i) ≡ tally now (in_turn (see i) xs))

next : (i : ℕ) → suc i ≡ i + 1
next i = omega arith

-- a list from an item on
pub drop_at : {X : Type 0} (xs : List X) (i : ℕ) (x : X) → slice_get xs i ≡ Some x → drop i xs ≡ x ∷ drop (i + 1) xs
drop_at [] i x is = let none : ⊥ = cc in absurd none
drop_at (y ∷ ys) zero x is = let same : y ≡ x = cc in ap (λ z. z ∷ ys) same
drop_at (y ∷ ys) (suc i) x is =
    let same : suc i + 1 ≡ suc (i + 1) = omega arith in
    rw same (drop_at ys i x is)

pub turn_goes : {A X : Type 0} (image : Option Image) (before now after : List AuditCount) (whole : Image → List Event) (see : Image → X → List Event) (xs : List X) (i : ℕ) (x : X) (u : A) → slice_get xs i ≡ Some x →
    Left image before whole now see (drop i xs) → TalliesAs (λ m. see m x) now after image (Ok u) → Left image before whole after see (drop (i + 1) xs)
turn_goes None before now after whole see xs i x u is l e = tt
turn_goes (Some m) before now after whole see xs i x u is l e =
    l ∙ ap (λ zs. tally now (in_turn (see m) zs)) (drop_at xs i x is) ∙ tally_goes now after (see m x) (in_turn (see m) (drop (i + 1) xs)) e

pub turn_stops : {X : Type 0} (A B : Type 0) (image : Option Image) (before now after end : List AuditCount) (whole : Image → List Event) (see : Image → X → List Event) (xs : List X) (i : ℕ) (x : X) (stop : WalkStop) → slice_get xs i ≡ Some x →
    Left image before whole now see (drop i xs) → TalliesAs {A = B} (λ m. see m x) now after image (Err stop) → TalliesAs {A = A} whole before end image (Err stop)
turn_stops A B None before now after end whole see xs i x stop is l e = tt
turn_stops A B (Some m) before now after end whole see xs i x (ends.Broken v) is l e =
    l ∙ ap (λ zs. tally now (in_turn (see m) zs)) (drop_at xs i x is) ∙ tally_stops now v (see m x) (in_turn (see m) (drop (i + 1) xs)) e
turn_stops A B (Some m) before now after end whole see xs i x ends.Fault is l e = tt
turn_stops A B (Some m) before now after end whole see xs i x ends.NoMemory is l e = tt

-- the numbers that are left lie between, too
pub between_goes : (k count : ℕ) (ms : List ℕ) (i m : ℕ) → slice_get ms i ≡ Some m → are_between k count (drop i ms) ≡ true → are_between k count (drop (i + 1) ms) ≡ true
between_goes k count ms i m is are =
    let all : are_between k count (m ∷ drop (i + 1) ms) ≡ true = rw (drop_at ms i m is) at are in
    (and_parts (nat_lt k m && nat_lt m count) (are_between k count (drop (i + 1) ms)) all).1

pub between_here : (k count : ℕ) (ms : List ℕ) (i m : ℕ) → slice_get ms i ≡ Some m → are_between k count (drop i ms) ≡ true → (k < m) × (m < count)
between_here k count ms i m is are =
    let all : are_between k count (m ∷ drop (i + 1) ms) ≡ true = rw (drop_at ms i m is) at are in
    let parts = and_parts (nat_lt k m) (nat_lt m count) (and_parts (nat_lt k m && nat_lt m count) (are_between k count (drop (i + 1) ms)) all).0 in
    (ltb-true k m parts.0, ltb-true m count parts.1)

-- the root audits, one after the other
pub roots_at : (audits : List AuditAt) (a : AuditAt) (i : ℕ) → slice_get audits i ≡ Some a → roots i (drop i audits) ≡ root_of i a.start ++ roots (i + 1) (drop (i + 1) audits)
roots_at audits a i is = ap (roots i) (drop_at audits i a is) ∙ ap (λ n. root_of i a.start ++ roots n (drop (i + 1) audits)) (next i)
