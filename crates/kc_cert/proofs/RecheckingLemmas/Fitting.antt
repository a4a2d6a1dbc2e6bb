-- A step that fits, and a count of events in two parts.
use Rattle.std.proofs.Common.{◌≡◌, ℕ, Bool, true, false, ◌&&◌, nat_eq, List, [], ◌∷◌, ◌++◌, refl, eq-eqb}
use Rattle.std.specs.Prelude.{Ok, if◌then◌else◌}
use Rattle.kc_memory.specs.Image.{Image}
use Rattle.kc_found.specs.declared.verdict.AuditCount.{AuditCount}
use Rattle.kc_plan.specs.Events.{Event, Walk, Wrong}
use Rattle.kc_plan.specs.Planned.{AuditAt}
use Rattle.kc_run.specs.Tally.{added, tally}
use Rattle.kc_cert.specs.Fits.Fits.{all_hold, fits}
use Rattle.kc_cert.specs.Fits.Shapes.{is_shape, nodes_in}

pub tally_parts : (before after : List AuditCount) (es us : List Event) → tally before (es ++ us) ≡ Ok after → (mid : List AuditCount) × (tally before es ≡ Ok mid) × (tally mid us ≡ Ok after)
tally_parts before after [] us e = (before, refl, e)
tally_parts before after (Walk n size ∷ es) us e = tally_parts (added before n size) after es us e
tally_parts before after (Wrong v ∷ es) us e = let none : ⊥ = cc in absurd none

pub both_true : (a b : Bool) → a ≡ true → b ≡ true → (a && b) ≡ true
both_true true b x y = y
both_true false b x y = absurd (cc)

pub if_so : {A : Type 0} (b : Bool) (x y : A) → b ≡ true → (if b then x else y) ≡ x
if_so true x y e = refl
if_so false x y e = absurd (cc)

-- its audit, its start, its shape and its checks
pub step_fits : (i : Image) (n : ℕ) (a : AuditAt) (start : ℕ) (lists : List (List ℕ)) → is_shape i a.kind n start lists ≡ true → all_hold i n a start (nodes_in a.kind lists) ≡ true → fits i n a start (record { audit = n; start = start; lists = lists }) ≡ true
unfolding fits
step_fits i n a start lists shape hold =
    both_true (nat_eq n n && nat_eq start start) (is_shape i a.kind n start lists && all_hold i n a start (nodes_in a.kind lists)) (both_true (nat_eq n n) (nat_eq start start) (eq-eqb n n refl) (eq-eqb start start refl))
    (both_true (is_shape i a.kind n start lists) (all_hold i n a start (nodes_in a.kind lists)) shape hold)
