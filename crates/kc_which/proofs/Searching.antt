-- A walk of steps, and the search among its rings for the one of its violation, step by step.
use denote.Enum.Bare.{sameb, true_same}
use Rattle.std.proofs.Common.{◌≡◌, ℕ, nat_eq, Bool, true, false, List, Option, Some, None, refl, sym, ap, ◌∙◌, true≢false, eq-eqb}
use Rattle.std.specs.Prelude.{Result, Ok, Err, if◌then◌else◌, ⊤}
use Rattle.kc_memory.specs.contracts.rule.Rule.{the_type}
use Rattle.kc_memory.specs.declared.rule.Rule.{Rule}
use Rattle.kc_memory.specs.Image.{Image}
use Rattle.kc_memory.specs.Stopped.{Stopped}
use Rattle.kc_layout.specs.declared.place.Field.{Field}
use Rattle.kc_found.specs.declared.asked.Asked.{Asked}
use Rattle.kc_found.specs.Trials.{and_then}
use Rattle.kc_found.specs.Violations.{Violation}
use Rattle.kc_view.specs.Fields.{breaks_at, field_of, holds, or_missed, read_field, started, started_at, unless}
use Rattle.kc_which.specs.Ends.{is_same, through}
use Rattle.kc_which.specs.Firsts.{or_else}

-- a violation of one of some rules that only rings break
pub record Sought (ours : Rule → Bool) (v : Violation) : Type 0 where
  pub stop : v.stop ≡ None
  pub rule : ours v.rule ≡ true

-- a step doesn't find it
abbrev pub Other : {X : Type 0} → Violation → Result X Violation → Type 0
Other v (Ok x) = ⊤
Other v (Err w) = w ≡ v → ⊥

pub no_stop : (s : Stopped) → ◌≡◌ {A = Option Stopped} (Some s) None → ⊥
no_stop s e = let none : ⊥ = cc in none

pub other_rule : {ours : Rule → Bool} (v w : Violation) → Sought ours v → ours w.rule ≡ false → w ≡ v → ⊥
other_rule {ours = ours} v w sought unlike is = true≢false (sym sought.rule ∙ ap (λ (u : Violation). ours u.rule) (sym is) ∙ unlike)

pub other_then : {X Y : Type 0} (v : Violation) (r : Result X Violation) (f : X → Result Y Violation) → Other v r → ((x : X) → Other v (f x)) → Other v (and_then r f)
other_then v (Ok x) f first rest = rest x
other_then v (Err w) f first rest = first

pub other_missed : {ours : Rule → Bool} {X : Type 0} (v : Violation) (asked : Asked) (r : Result X Stopped) → Sought ours v → Other v (or_missed asked r)
other_missed v asked (Ok x) sought = tt
other_missed v asked (Err s) sought = λ is. no_stop s (ap (λ (w : Violation). w.stop) is ∙ sought.stop)

pub other_unless : {ours : Rule → Bool} {X : Type 0} (v w : Violation) (b : Bool) (r : Result X Violation) → Sought ours v → ours w.rule ≡ false → Other v r → Other v (unless b w r)
other_unless v w true r sought unlike rest = other_rule v w sought unlike
other_unless v w false r sought unlike rest = rest

pub other_if : {X : Type 0} (v : Violation) (b : Bool) (r s : Result X Violation) → Other v r → Other v s → Other v (if b then r else s)
other_if v true r s one two = one
other_if v false r s one two = two

pub other_holds : {ours : Rule → Bool} (v : Violation) (image : Image) (asked : Asked) (rule : Rule) (at : ℕ) (f : Field) (wanted : ℕ) → Sought ours v → ours rule ≡ false → Other v (holds image asked rule at f wanted)
other_holds v image asked rule at f wanted sought unlike =
    other_then v (read_field image asked at f) _ (other_missed v asked (field_of image at f) sought) (λ n.
    other_unless v (breaks_at asked rule n (Some wanted)) _ (Ok tt) sought unlike tt)

-- the search tells the ring, whose walk finds the violation
abbrev pub Told : {R : Type 0} → (R → Result (List ℕ) Violation) → Violation → Result (Option R) Violation → Type 0
Told {R} nodes_of v s = (ring : R) × (s ≡ Ok (Some ring)) × (started_at v.start (nodes_of ring) ≡ Err v)

-- the search goes on where the walk does, and tells the ring where the walk finds the violation
abbrev pub Agrees : {X R : Type 0} → (R → Result (List ℕ) Violation) → Violation → Result X Violation → Result (Option R) Violation → Type 0
Agrees nodes_of v (Ok x) s = s ≡ Ok None
Agrees nodes_of v (Err w) s = w ≡ v → Told nodes_of v s

pub agrees_on : {X R : Type 0} (nodes_of : R → Result (List ℕ) Violation) (v : Violation) (r : Result X Violation) (s : Result (Option R) Violation) → Other v r → s ≡ Ok None → Agrees nodes_of v r s
agrees_on nodes_of v (Ok x) s other on = on
agrees_on nodes_of v (Err w) s other on = λ is. absurd (other is)

-- a step that the search hasn't, before or after
pub skip_before : {X Y R : Type 0} (nodes_of : R → Result (List ℕ) Violation) (v : Violation) (r : Result X Violation) (f : X → Result Y Violation) (s : Result (Option R) Violation)
    → Other v r → ((x : X) → r ≡ Ok x → Agrees nodes_of v (f x) s) → Agrees nodes_of v (and_then r f) s
skip_before nodes_of v (Ok x) f s other rest = rest x refl
skip_before nodes_of v (Err w) f s other rest = λ is. absurd (other is)

pub skip_after : {X Y R : Type 0} (nodes_of : R → Result (List ℕ) Violation) (v : Violation) (r : Result X Violation) (f : X → Result Y Violation) (s : Result (Option R) Violation)
    → Agrees nodes_of v r s → ((x : X) → Other v (f x)) → Agrees nodes_of v (and_then r f) s
skip_after nodes_of v (Ok x) f s first other = agrees_on nodes_of v (f x) s (other x) first
skip_after nodes_of v (Err w) f s first other = first

-- one step of both after another
pub both_on : {X Y R : Type 0} (nodes_of : R → Result (List ℕ) Violation) (v : Violation) (r : Result X Violation) (f : X → Result Y Violation) (s rest : Result (Option R) Violation)
    → Agrees nodes_of v r s → ((x : X) → Agrees nodes_of v (f x) rest) → Agrees nodes_of v (and_then r f) (and_then s (or_else rest))
both_on nodes_of v (Ok x) f s rest first more = rw first (more x)
both_on {R = R} nodes_of v (Err w) f s rest first more = λ is. let told = first is in (told.0, ap (λ (q : Result (Option R) Violation). and_then q (or_else rest)) told.1, told.2)

-- the walk of a ring
same : (v w : Violation) → started w v.start ≡ v → is_same v w ≡ true
same v w is =
    let rule : sameb the_type w.rule v.rule ≡ true = true_same the_type w.rule v.rule (ap (λ (u : Violation). u.rule) is) in
    let at : nat_eq w.at v.at ≡ true = eq-eqb w.at v.at (ap (λ (u : Violation). u.at) is) in
    rw (rule, at) refl

pub through_ring : {X R : Type 0} (nodes_of : R → Result (List ℕ) Violation) (v : Violation) (ring : R) (walk : Result (List ℕ) Violation)
    (f : List ℕ → Result X Violation) (go : List ℕ → Result (Option R) Violation) → nodes_of ring ≡ walk → ((nodes : List ℕ) → Agrees nodes_of v (f nodes) (go nodes))
    → Agrees nodes_of v (and_then (started_at v.start walk) f) (through v ring walk go)
through_ring nodes_of v ring (Ok nodes) f go here on = on nodes
through_ring nodes_of v ring (Err w) f go here on = λ is.
    (ring, ap (λ (b : Bool). if b then Ok (Some ring) else Err w) (same v w is), ap (started_at v.start) here ∙ ap Err is)
