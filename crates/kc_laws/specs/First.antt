-- The first violation of trials: which trial it is of, and when a claim is what fails.
use Rattle.std.proofs.Common.{◌≡◌, ℕ, nat_eq, Bool, true, false, List, [], ◌∷◌, ◌++◌, drop, refl, sym, ap, ap₂, ◌∙◌}
use Rattle.std.specs.Cmp.{nat_eq_equiv}
use Rattle.std.specs.Prelude.{◌↔◌, ◌||◌, Result, Ok, Err, if◌then◌else◌}
use Rattle.kc_found.specs.Taken.{is_taken, with_word}
use Rattle.kc_found.specs.Trials.{Trial, Claim, Break, Meet, and_then, claimed_in, judged, met, passed}
use Rattle.kc_found.specs.Violations.{Violation}
use Rattle.kc_found.proofs.Rising.{new_before, new_after}
use Rattle.kc_laws.specs.Formats.{ok_not_err, ok_is, err_is}
use Rattle.kc_laws.specs.Trials.{passed_goes, passed_stops}

-- Some trials pass, the next one fails with this violation, and nothing is said of those after it.
pub record FailsFirst {X : Type 0} (taken : List ℕ) (ts : List (Trial X)) (v : Violation) : Type 0 where
  pub before : List (Trial X)
  pub trial : Trial X
  pub after : List (Trial X)
  -- the words taken by then
  pub more : List ℕ
  pub split : ts ≡ before ++ trial ∷ after
  pub passes : passed taken before ≡ Ok more
  pub fails : passed more (trial ∷ []) ≡ Err v

-- a claim fails, or the first of those after it does
at_claim : {X : Type 0} (taken : List ℕ) (pa : ℕ) (u v : Violation) (ts : List (Trial X)) (b : Bool) → is_taken taken pa ≡ b → and_then (if b then Err u else Ok (with_word taken pa)) (λ m. passed m ts) ≡ Err v
    → (passed (with_word taken pa) ts ≡ Err v → FailsFirst (with_word taken pa) ts v) → FailsFirst taken (Claim pa u ∷ ts) v
at_claim taken pa u v ts true is e next = record {
  before = [];
  trial = Claim pa u;
  after = ts;
  more = taken;
  split = refl;
  passes = refl;
  fails = ap (λ c. and_then (if c then Err u else Ok (with_word taken pa)) (λ m. Ok m)) is ∙ e;
}
at_claim taken pa u v ts false is e next = let f = next e in record {
  before = Claim pa u ∷ f.before;
  trial = f.trial;
  after = f.after;
  more = f.more;
  split = ap (λ xs. Claim pa u ∷ xs) f.split;
  passes = ap (λ c. and_then (if c then Err u else Ok (with_word taken pa)) (λ m. passed m f.before)) is ∙ f.passes;
  fails = f.fails;
}

-- trials end with the violation of the first that fails
pub first_fails : {X : Type 0} (taken : List ℕ) (ts : List (Trial X)) (v : Violation) → passed taken ts ≡ Err v → FailsFirst taken ts v
first_fails taken [] v e = absurd (ok_not_err taken v e)
first_fails taken (Claim pa u ∷ ts) v e = at_claim taken pa u v ts (is_taken taken pa) refl e (first_fails (with_word taken pa) ts v)
first_fails taken (Break u ∷ ts) v e = record { before = []; trial = Break u; after = ts; more = taken; split = refl; passes = refl; fails = e }
first_fails taken (Meet x ∷ ts) v e = let f = first_fails taken ts v e in
    record { before = Meet x ∷ f.before; trial = f.trial; after = f.after; more = f.more; split = ap (λ xs. Meet x ∷ xs) f.split; passes = f.passes; fails = f.fails }

-- and the other way round
pub fails_first : {X : Type 0} (taken : List ℕ) (ts : List (Trial X)) (v : Violation) → FailsFirst taken ts v → passed taken ts ≡ Err v
fails_first taken ts v f = ap (passed taken) f.split ∙ passed_goes taken f.before (f.trial ∷ f.after) f.more f.passes ∙ passed_stops f.more (f.trial ∷ []) f.after v f.fails

-- so the violation of a walk is that of its first trial that fails
pub judged_first : {X : Type 0} (ts : List (Trial X)) (v : Violation) → (judged ts ≡ Err v) ↔ FailsFirst [] ts v
judged_first ts v = (λ e. first_fails [] ts v (by (passed [] ts) e), λ f. ap (λ r. and_then r (λ m. Ok (met ts))) (fails_first [] ts v f))
  where
    by : (r : Result (List ℕ) Violation) → and_then r (λ m. Ok (met ts)) ≡ Err v → r ≡ Err v
    by (Ok m) e = absurd (ok_not_err (met ts) v e)
    by (Err u) e = ap Err (err_is u v e)

-- the first of a list, where it has one
abbrev first_or : {A : Type 0} → A → List A → A
first_or x [] = x
first_or x (y ∷ ys) = y

-- two fronts that begin with one trial go on after it
same_after : {X : Type 0} (taken ms ns : List ℕ) (x y : Trial X) (xs bs ss ts : List (Trial X)) (u v : Violation) (P : Type 0) (r : Result (List ℕ) Violation) → passed taken (x ∷ []) ≡ r → x ≡ y
    → passed taken (x ∷ xs) ≡ Ok ms → passed taken (x ∷ ss) ≡ Err u → passed taken (y ∷ bs) ≡ Ok ns → passed taken (y ∷ ts) ≡ Err v
    → ((mid : List ℕ) → passed mid xs ≡ Ok ms → passed mid ss ≡ Err u → passed mid bs ≡ Ok ns → passed mid ts ≡ Err v → P) → P
same_after taken ms ns x y xs bs ss ts u v P (Ok mid) is same a f b g next =
    let also = ap (λ z. passed taken (z ∷ [])) (sym same) ∙ is in
    next mid (sym (passed_goes taken (x ∷ []) xs mid is) ∙ a) (sym (passed_goes taken (x ∷ []) ss mid is) ∙ f) (sym (passed_goes taken (y ∷ []) bs mid also) ∙ b) (sym (passed_goes taken (y ∷ []) ts mid also) ∙ g)
same_after taken ms ns x y xs bs ss ts u v P (Err w) is same a f b g next = absurd (ok_not_err ms w (sym a ∙ passed_stops taken (x ∷ []) xs w is))

-- a front that passes doesn't begin with a trial that fails
not_front : {X : Type 0} (taken ns : List ℕ) (s y : Trial X) (bs : List (Trial X)) (u : Violation) → s ≡ y → passed taken (s ∷ []) ≡ Err u → passed taken (y ∷ bs) ≡ Ok ns → ⊥
not_front taken ns s y bs u same f b = ok_not_err ns u (sym b ∙ passed_stops taken (y ∷ []) bs u (ap (λ z. passed taken (z ∷ [])) (sym same) ∙ f))

-- two fronts that pass, each before a trial that fails, are one
same_split : {X : Type 0} (taken ms ns : List ℕ) (xs bs : List (Trial X)) (s t : Trial X) (ss ts : List (Trial X)) (u v : Violation) → xs ++ s ∷ ss ≡ bs ++ t ∷ ts
    → passed taken xs ≡ Ok ms → passed taken (xs ++ s ∷ []) ≡ Err u → passed taken bs ≡ Ok ns → passed taken (bs ++ t ∷ []) ≡ Err v → (xs ≡ bs) × (s ≡ t) × (ss ≡ ts)
same_split taken ms ns [] [] s t ss ts u v e a f b g = (refl, ap (first_or s) e, ap (drop 1) e)
same_split taken ms ns [] (y ∷ bs) s t ss ts u v e a f b g = absurd (not_front taken ns s y bs u (ap (first_or s) e) f b)
same_split taken ms ns (x ∷ xs) [] s t ss ts u v e a f b g = absurd (not_front taken ms t x xs v (ap (first_or t) (sym e)) g a)
same_split taken ms ns (x ∷ xs) (y ∷ bs) s t ss ts u v e a f b g =
    let same : x ≡ y = ap (first_or x) e in
    let rest = same_after taken ms ns x y xs bs (xs ++ s ∷ []) (bs ++ t ∷ []) u v ((xs ≡ bs) × (s ≡ t) × (ss ≡ ts)) (passed taken (x ∷ [])) refl same a f b g
    (λ mid c h d i. same_split mid ms ns xs bs s t ss ts u v (ap (drop 1) e) c h d i) in
    (ap₂ (λ z zs. z ∷ zs) same rest.0, rest.1, rest.2)

-- and of no other: a list of trials has one such front
pub only_first : {X : Type 0} (taken : List ℕ) (ts : List (Trial X)) (u v : Violation) (f : FailsFirst taken ts u) (g : FailsFirst taken ts v) → (f.before ≡ g.before) × (f.trial ≡ g.trial) × (f.after ≡ g.after)
only_first taken ts u v f g =
    same_split taken f.more g.more f.before g.before f.trial g.trial f.after g.after u v (sym f.split ∙ g.split) f.passes (passed_goes taken f.before (f.trial ∷ []) f.more f.passes ∙ f.fails)
    g.passes (passed_goes taken g.before (g.trial ∷ []) g.more g.passes ∙ g.fails)

-- of the words taken after one more, which are taken
with_one : (xs : List ℕ) (p q : ℕ) (one all now : Bool) → is_taken xs p ≡ false → nat_eq q p ≡ one → is_taken xs q ≡ all → is_taken (with_word xs p) q ≡ now → now ≡ (all || one)
with_one xs p q one all false new a b c = let both = new_before xs p q new c in sym (ap₂ (λ d e. d || e) (sym b ∙ both.1) (sym a ∙ nat_eq_equiv.symm q p ∙ both.0))
with_one xs p q true true true new a b c = refl
with_one xs p q true false true new a b c = refl
with_one xs p q false true true new a b c = refl
with_one xs p q false false true new a b c = sym c ∙ new_after xs p q new (nat_eq_equiv.symm p q ∙ a) b

or_assoc : (a b c : Bool) → ((a || b) || c) ≡ (a || (b || c))
or_assoc true b c = refl
or_assoc false b c = refl

-- over a claim that passes
taken_one : {X : Type 0} (taken : List ℕ) (pa : ℕ) (u : Violation) (ts : List (Trial X)) (more : List ℕ) (q : ℕ) (b : Bool) → is_taken taken pa ≡ b → and_then (if b then Err u else Ok (with_word taken pa)) (λ m. passed m ts) ≡ Ok more
    → (passed (with_word taken pa) ts ≡ Ok more → is_taken more q ≡ (is_taken (with_word taken pa) q || is_taken (claimed_in ts) q)) → is_taken more q ≡ (is_taken taken q || (nat_eq q pa || is_taken (claimed_in ts) q))
taken_one taken pa u ts more q true is e next = absurd (ok_not_err more u (sym e))
taken_one taken pa u ts more q false is e next =
    next e ∙ ap (λ c. c || is_taken (claimed_in ts) q) (with_one taken pa q (nat_eq q pa) (is_taken taken q) (is_taken (with_word taken pa) q) is refl refl refl)
    ∙ or_assoc (is_taken taken q) (nat_eq q pa) (is_taken (claimed_in ts) q)

or_none : (a : Bool) → a ≡ (a || false)
or_none true = refl
or_none false = refl

-- after trials that pass, a word is taken that was taken before, or that they take
pub taken_after : {X : Type 0} (taken : List ℕ) (ts : List (Trial X)) (more : List ℕ) (pa : ℕ) → passed taken ts ≡ Ok more → is_taken more pa ≡ (is_taken taken pa || is_taken (claimed_in ts) pa)
taken_after taken [] more pa e = ap (λ m. is_taken m pa) (sym (ok_is taken more e)) ∙ or_none (is_taken taken pa)
taken_after taken (Claim p u ∷ ts) more pa e = taken_one taken p u ts more pa (is_taken taken p) refl e (taken_after (with_word taken p) ts more pa)
taken_after taken (Break u ∷ ts) more pa e = absurd (ok_not_err more u (sym e))
taken_after taken (Meet x ∷ ts) more pa e = taken_after taken ts more pa e

-- a claim after trials that pass fails exactly where its word was taken before, or is one that they take
pub claim_fails : {X : Type 0} (taken : List ℕ) (ts : List (Trial X)) (more : List ℕ) (pa : ℕ) (v : Violation) → passed taken ts ≡ Ok more
    → (passed taken (ts ++ Claim pa v ∷ []) ≡ Err v) ↔ ((is_taken taken pa || is_taken (claimed_in ts) pa) ≡ true)
claim_fails taken ts more pa v e =
    let goes = passed_goes taken ts (Claim pa v ∷ []) more e in
    (λ f. sym (taken_after taken ts more pa e) ∙ there (is_taken more pa) (sym goes ∙ f), λ t. goes ∙ ap (λ b. and_then (if b then Err v else Ok (with_word more pa)) (λ m. Ok m)) (taken_after taken ts more pa e ∙ t))
  where
    there : (b : Bool) → and_then (if b then Err v else Ok (with_word more pa)) (λ m. Ok m) ≡ Err v → b ≡ true
    there true f = refl
    there false f = absurd (ok_not_err (with_word more pa) v f)
