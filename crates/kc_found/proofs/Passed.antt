-- What it says that trials pass, one list of them after another.
use Rattle.std.proofs.Common.{◌≡◌, ℕ, nat_eq, Bool, true, false, List, [], ◌∷◌, ◌++◌, length, refl, sym, ◌∙◌, ap, arith}
use Rattle.std.specs.Prelude.{Result, Ok, Err, if◌then◌else◌}
use Rattle.std.specs.List.{IsDistinct, AllByRecursion}
use Rattle.std.specs.Set.{is_member}
use Rattle.kc_found.specs.Taken.{is_taken, with_word}
use Rattle.kc_found.specs.Trials.{Trial, Claim, Break, Meet, and_then, claimed, passed, met, claimed_in, IsUnbroken}
use Rattle.kc_found.specs.Violations.{Violation}
use Rattle.kc_found.proofs.Rising.{one_longer, all_with, still_distinct, new_before, new_after}
use Rattle.kc_found.specs.Passing.{AreNew, Passes}

pub distinct_none : IsDistinct nat_eq []
unfolding IsDistinct
distinct_none = tt

-- words that are new after one more are new before it, and differ from it
fresh_before : (taken : List ℕ) (pa : ℕ) (words : List ℕ) → is_taken taken pa ≡ false → AreNew (with_word taken pa) words → AreNew taken words × AllByRecursion (λ w. nat_eq pa w ≡ false) words
fresh_before taken pa [] new h = (tt, tt)
fresh_before taken pa (w ∷ ws) new h =
    let one = new_before taken pa w new h.0 in
    let rest = fresh_before taken pa ws new h.1 in
    ((one.1, rest.0), (one.0, rest.1))

fresh_after : (taken : List ℕ) (pa : ℕ) (words : List ℕ) → is_taken taken pa ≡ false → AreNew taken words → AllByRecursion (λ w. nat_eq pa w ≡ false) words → AreNew (with_word taken pa) words
fresh_after taken pa [] new h other = tt
fresh_after taken pa (w ∷ ws) new h other = (new_after taken pa w new other.0 h.0, fresh_after taken pa ws new h.1 other.1)

one_more : {X : Type 0} (taken : List ℕ) (pa : ℕ) (v : Violation) (ts : List (Trial X)) (more : List ℕ) → is_taken taken pa ≡ false → Passes (with_word taken pa) ts more → Passes taken (Claim pa v ∷ ts) more
unfolding IsDistinct
one_more taken pa v ts more new p =
    let rest = fresh_before taken pa (claimed_in ts) new p.fresh in
    let size = one_longer taken pa new in
    record {
      unbroken = p.unbroken;
      fresh = (new, rest.0);
      apart = (rest.1, p.apart);
      longer = omega (arith, p.longer, size);
      distinct = λ d. p.distinct (still_distinct taken pa new d);
      among = λ known before words. p.among known (all_with (λ w. is_member nat_eq known w ≡ true) taken pa new before words.0) words.1;
    }

passes_at : {X : Type 0} (taken : List ℕ) (pa : ℕ) (v : Violation) (ts : List (Trial X)) (more : List ℕ) (b : Bool) → is_taken taken pa ≡ b → and_then (if b then Err v else Ok (with_word taken pa)) (λ m. passed m ts) ≡ Ok more →
    (passed (with_word taken pa) ts ≡ Ok more → Passes (with_word taken pa) ts more) → Passes taken (Claim pa v ∷ ts) more
passes_at taken pa v ts more true is e next = absurd (cc)
passes_at taken pa v ts more false is e next = one_more taken pa v ts more is (next e)

passes_none : {X : Type 0} (taken more : List ℕ) → taken ≡ more → Passes {X = X} taken [] more
passes_none taken more same = record {
  unbroken = tt;
  fresh = tt;
  apart = distinct_none;
  longer = ap length (sym same) ∙ omega arith;
  distinct = λ d. rw same at d;
  among = λ known before words. rw same at before;
}

pub passed_is : {X : Type 0} (taken : List ℕ) (ts : List (Trial X)) (more : List ℕ) → passed taken ts ≡ Ok more → Passes taken ts more
passed_is taken [] more e = passes_none taken more (cc)
passed_is taken (Claim pa v ∷ ts) more e = passes_at taken pa v ts more (is_taken taken pa) refl e (passed_is (with_word taken pa) ts more)
passed_is taken (Break v ∷ ts) more e = absurd (cc)
passed_is taken (Meet x ∷ ts) more e = let p = passed_is taken ts more e in record { unbroken = p.unbroken; fresh = p.fresh; apart = p.apart; longer = p.longer; distinct = p.distinct; among = p.among }

passes_after : {X : Type 0} (taken : List ℕ) (ts : List (Trial X)) → IsUnbroken ts → AreNew taken (claimed_in ts) → IsDistinct nat_eq (claimed_in ts) → (more : List ℕ) × (passed taken ts ≡ Ok more)
unfolding IsDistinct
passes_after taken [] u new d = (taken, refl)
passes_after taken (Claim pa v ∷ ts) u new d = rw (new.0) (passes_after (with_word taken pa) ts u (fresh_after taken pa (claimed_in ts) new.0 new.1 d.0) d.1)
passes_after taken (Break v ∷ ts) u new d = absurd u
passes_after taken (Meet x ∷ ts) u new d = passes_after taken ts u new d

all_new : (words : List ℕ) → AreNew [] words
all_new [] = tt
all_new (w ∷ ws) = (refl, all_new ws)

pub passed_distinct : {X : Type 0} (taken : List ℕ) (ts : List (Trial X)) (more : List ℕ) → passed taken ts ≡ Ok more → IsDistinct nat_eq taken → IsDistinct nat_eq more
passed_distinct taken ts more e = (passed_is taken ts more e).distinct

-- trials that break no rule pass, where the words that they take are different
pub passes : {X : Type 0} (ts : List (Trial X)) → IsUnbroken ts → IsDistinct nat_eq (claimed_in ts) → (more : List ℕ) × (passed [] ts ≡ Ok more)
passes ts u d = passes_after [] ts u (all_new (claimed_in ts)) d

and_then-assoc : {A B C E : Type 0} (r : Result A E) (f : A → Result B E) (h : B → Result C E) → and_then (and_then r f) h ≡ and_then r (λ x. and_then (f x) h)
and_then-assoc (Ok x) f h = refl
and_then-assoc (Err e) f h = refl

and_then-same : {A B E : Type 0} (r : Result A E) (f h : A → Result B E) → ((x : A) → f x ≡ h x) → and_then r f ≡ and_then r h
and_then-same (Ok x) f h e = e x
and_then-same (Err x) f h e = refl

passed-append : {X : Type 0} (taken : List ℕ) (ts us : List (Trial X)) → passed taken (ts ++ us) ≡ and_then (passed taken ts) (λ more. passed more us)
passed-append taken [] us = refl
passed-append taken (Claim pa v ∷ ts) us =
    and_then-same (claimed taken pa v) (λ more. passed more (ts ++ us)) (λ more. and_then (passed more ts) (λ m. passed m us)) (λ more. passed-append more ts us)
    ∙ sym (and_then-assoc (claimed taken pa v) (λ more. passed more ts) (λ m. passed m us))
passed-append taken (Break v ∷ ts) us = refl
passed-append taken (Meet x ∷ ts) us = passed-append taken ts us

pub passed_goes : {X : Type 0} (taken : List ℕ) (ts us : List (Trial X)) (more : List ℕ) → passed taken ts ≡ Ok more → passed taken (ts ++ us) ≡ passed more us
passed_goes taken ts us more e = passed-append taken ts us ∙ ap (λ r. and_then r (λ m. passed m us)) e

pub passed_stops : {X : Type 0} (taken : List ℕ) (ts us : List (Trial X)) (v : Violation) → passed taken ts ≡ Err v → passed taken (ts ++ us) ≡ Err v
passed_stops taken ts us v e = passed-append taken ts us ∙ ap (λ r. and_then r (λ m. passed m us)) e

pub met-append : {X : Type 0} (ts us : List (Trial X)) → met (ts ++ us) ≡ met ts ++ met us
met-append [] us = refl
met-append (Claim pa v ∷ ts) us = met-append ts us
met-append (Break v ∷ ts) us = met-append ts us
met-append (Meet x ∷ ts) us = ap (λ xs. x ∷ xs) (met-append ts us)

pub claimed_in-append : {X : Type 0} (ts us : List (Trial X)) → claimed_in (ts ++ us) ≡ claimed_in ts ++ claimed_in us
claimed_in-append [] us = refl
claimed_in-append (Claim pa v ∷ ts) us = ap (λ xs. pa ∷ xs) (claimed_in-append ts us)
claimed_in-append (Break v ∷ ts) us = claimed_in-append ts us
claimed_in-append (Meet x ∷ ts) us = claimed_in-append ts us

pub unbroken_parts : {X : Type 0} (ts us : List (Trial X)) → IsUnbroken (ts ++ us) → IsUnbroken ts × IsUnbroken us
unbroken_parts [] us u = (tt, u)
unbroken_parts (Claim pa v ∷ ts) us u = unbroken_parts ts us u
unbroken_parts (Break v ∷ ts) us u = absurd u
unbroken_parts (Meet x ∷ ts) us u = unbroken_parts ts us u

pub unbroken_whole : {X : Type 0} (ts us : List (Trial X)) → IsUnbroken ts → IsUnbroken us → IsUnbroken (ts ++ us)
unbroken_whole [] us t u = u
unbroken_whole (Claim pa v ∷ ts) us t u = unbroken_whole ts us t u
unbroken_whole (Break v ∷ ts) us t u = absurd t
unbroken_whole (Meet x ∷ ts) us t u = unbroken_whole ts us t u
