-- The first step that doesn't fit.
use Rattle.std.proofs.Common.{◌≡◌, ℕ, suc, ◌+◌, ◌-◌, Bool, true, false, nat_eq, List, [], ◌∷◌, ◌++◌, length, slice_get, Some, refl, sym, ap, subst, ◌∙◌, append_assoc, inl, inr, arith}
use Rattle.std.specs.Prelude.{Result, Ok, Err, if◌then◌else◌}
use Rattle.std.specs.List.{AllByRecursion}
use Rattle.std.proofs.lemmas.List.{length-append}
use Rattle.kc_memory.specs.Image.{Image}
use Rattle.kc_memory.specs.Stopped.{Stopped}
use Rattle.kc_found.specs.declared.verdict.AuditCount.{AuditCount}
use Rattle.kc_found.specs.Trials.{and_then}
use Rattle.kc_plan.specs.Planned.{AuditAt}
use Rattle.kc_plan.specs.Seen.{EndsAt, NullAt, PathEnd, container_of, is_optional, path_end, path_of, roots}
use Rattle.kc_run.specs.Tally.{zeros}
use Rattle.kc_cert.specs.declared.text.certificate.CertStep.{CertStep}
use Rattle.kc_cert.specs.declared.rechecking.against.CertAnswer.TheVariants.{Yes, No}
use Rattle.kc_cert.specs.Fits.Fits.{fits}
use Rattle.kc_cert.specs.Fits.Shapes.{nodes_in}
use Rattle.kc_cert.specs.Rechecking.Certificates.{Judge, Judged, Progress, after_walk, answer_by, answer_of, at, below_judged, each_judged, entry_judged, judged, nodes_judged, number_of, roots_judged, walk_judged}
use Rattle.kc_app.specs.Misfits.{FitsThere, IsFirstMisfit, Misfit, MisfitsAreFirst, Stops}

all_append : {X : Type 0} (P : X → Type 0) (xs ys : List X) → AllByRecursion P xs → AllByRecursion P ys → AllByRecursion P (xs ++ ys)
all_append P [] ys all more = more
all_append P (x ∷ xs) ys all more = (all.0, all_append P xs ys all.1 more)

module _ (image : Image) (all : List AuditAt) where
  -- what judges does so: the steps that it took fit, and where it stopped, the next doesn't
  abbrev Goes : List CertStep → Judged → Type 0
  Goes old (Ok p) = (front : List CertStep) × (old ≡ front ++ p.left) × AllByRecursion (FitsThere image all) front
  Goes old (Err left) = (front : List CertStep) × (old ≡ front ++ left) × AllByRecursion (FitsThere image all) front × Misfit image all left

  abbrev IsGood : Judge → Type 0
  IsGood judge = (p : Progress) → Goes p.left (judge p)

  more : (old mid front : List CertStep) → old ≡ front ++ mid → AllByRecursion (FitsThere image all) front → (j : Judged) → Goes mid j → Goes old j
  more old mid front is fit (Ok p) g =
      (front ++ g.0, is ∙ ap (λ (l : List CertStep). front ++ l) g.1 ∙ sym (append_assoc front g.0 p.left), all_append (FitsThere image all) front g.0 fit g.2)
  more old mid front is fit (Err left) g =
      (front ++ g.0, is ∙ ap (λ (l : List CertStep). front ++ l) g.1 ∙ sym (append_assoc front g.0 left), all_append (FitsThere image all) front g.0 fit g.2, g.3)

  then_goes : (old : List CertStep) (j : Judged) (f : Judge) → Goes old j → IsGood f → Goes old (and_then j f)
  then_goes old (Ok p) f g good = more old p.left g.0 g.1 g.2 (f p) (good p)
  then_goes old (Err left) f g good = g

  each_good : {X : Type 0} (judge : X → Judge) (xs : List X) → ((x : X) → IsGood (judge x)) → IsGood (each_judged judge xs)
  each_good judge [] good p = ([], refl, tt)
  each_good judge (x ∷ xs) good p = then_goes p.left (judge x p) (each_judged judge xs) (good x p) (each_good judge xs good)

  module _ (n : ℕ) (a : AuditAt) (one : slice_get all n ≡ Some a) (go : ℕ → ℕ → Judge) (good : (m element : ℕ) → IsGood (go m element)) where
    nodes_good : (nodes : List ℕ) → IsGood (nodes_judged a go nodes)
    nodes_good nodes = each_good (λ node. below_judged a go (container_of a.link node)) nodes (λ node. each_good (λ m. go m (container_of a.link node)) a.each (λ m. good m (container_of a.link node)))

    walk_by : (start : ℕ) (s : CertStep) (left : List CertStep) (p : Progress) (b : Bool) → p.left ≡ left → fits image n a start s ≡ b
        → Goes (s ∷ left) (if b then nodes_judged a go (nodes_in a.kind s.lists) p else Err (s ∷ left))
    walk_by start s left p true same is =
        more (s ∷ left) p.left (s ∷ []) (ap (λ (l : List CertStep). s ∷ l) (sym same)) (record { number = n; audit = a; one = one; start = start; fit = is }, tt)
        (nodes_judged a go (nodes_in a.kind s.lists) p) (nodes_good (nodes_in a.kind s.lists) p)
    walk_by start s left p false same is =
        ([], refl, tt, inr (inl (record { number = n; audit = a; one = one; start = start; first = s; others = left; parts = refl; unfit = is })))

    walk_good : (start : ℕ) (counts : List AuditCount) (left : List CertStep) → Goes left (walk_judged image n a start go counts left)
    walk_good start counts [] = ([], refl, tt, inl refl)
    walk_good start counts (s ∷ left) = walk_by start s left (after_walk left counts n (nodes_in a.kind s.lists)) (fits image n a start s) refl refl

    null_by : (base : ℕ) (p : Progress) (b : Bool) → is_optional a.start ≡ b → (b ≡ false → Stops a (path_end image base (path_of a.start).hops (path_of a.start).byte)) → Goes p.left (if b then Ok p else Err p.left)
    null_by base p true is stops = ([], refl, tt)
    null_by base p false is stops = ([], refl, tt, inr (inr (record { number = n; audit = a; one = one; base = base; stops = stops refl })))

    entry_by : (base : ℕ) (r : Result PathEnd Stopped) → path_end image base (path_of a.start).hops (path_of a.start).byte ≡ r → IsGood (entry_judged image n a go r)
    entry_by base (Err s) is p = ([], refl, tt, inr (inr (record { number = n; audit = a; one = one; base = base; stops = subst (λ (r : Result PathEnd Stopped). Stops a r) (sym is) tt })))
    entry_by base (Ok (NullAt place stands)) is p =
        null_by base p (is_optional a.start) refl (λ unless. subst (λ (r : Result PathEnd Stopped). Stops a r) (sym is) unless)
    entry_by base (Ok (EndsAt start)) is p = walk_good start p.counts p.left

  one_of : (old : List CertStep) (one other : Judged) (b : Bool) → Goes old one → Goes old other → Goes old (if b then one else other)
  one_of old one other true y n = y
  one_of old one other false y n = n

  judged_good : (audits : List AuditAt) (k : ℕ) → ((i : ℕ) (a : AuditAt) → slice_get audits i ≡ Some a → slice_get all (k + i) ≡ Some a) → (m base : ℕ) → IsGood (judged image audits k m base)
  unfolding judged
  judged_good [] k are m base p = ([], refl, tt)
  judged_good (a ∷ later) k are m base p =
      let below = judged_good later (suc k) (λ i b found. let same : k + suc i ≡ suc k + i = omega arith in subst (λ (n : ℕ). slice_get all n ≡ Some b) same (are (suc i) b found)) in
      let here : k + 0 ≡ k = omega arith in
      one_of p.left (entry_judged image k a (λ n element. judged image later (suc k) n element) (path_end image base (path_of a.start).hops (path_of a.start).byte) p) (judged image later (suc k) m base p) (nat_eq m k)
      (entry_by k a (subst (λ (n : ℕ). slice_get all n ≡ Some a) here (are 0 a refl)) (λ n element. judged image later (suc k) n element) below base (path_end image base (path_of a.start).hops (path_of a.start).byte) refl p)
      (below m base p)

  roots_good : IsGood (roots_judged image all)
  roots_good = each_good (λ r. judged image all 0 r.0 r.1) (roots 0 all) (λ r. judged_good all 0 (λ i a found. let same : i ≡ 0 + i = omega arith in subst (λ (n : ℕ). slice_get all n ≡ Some a) same found) r.0 r.1)

number_is : (steps front left : List CertStep) (number : ℕ) → steps ≡ front ++ left → No (number_of steps left) ≡ No number → number ≡ length front + 1
number_is steps front left number parts is =
    let same : number_of steps left ≡ number = cc in
    let sum = ap length parts ∙ length-append front left in
    sym same ∙ (let count : length steps - length left + 1 ≡ length front + 1 = omega arith in count)

yes_is_no : (counts : List AuditCount) (number : ℕ) → Yes counts ≡ No number → ⊥
yes_is_no counts number is = let none : ⊥ = cc in none

surplus : (image : Image) (audits : List AuditAt) (steps : List CertStep) (end : Progress) (left : List CertStep) (number : ℕ) → roots_judged image audits (at steps (zeros audits)) ≡ Ok end → end.left ≡ left
    → Goes image audits steps (Ok end) → answer_by steps end.counts left ≡ No number → IsFirstMisfit image audits steps number
surplus image audits steps end [] number judged over g is = absurd (yes_is_no end.counts number is)
surplus image audits steps end (s ∷ left) number judged over g is =
    let parts = g.1 ∙ ap (λ (l : List CertStep). g.0 ++ l) over in
    record {
      before = g.0;
      left = s ∷ left;
      parts = parts;
      counted = number_is steps g.0 (s ∷ left) number parts is;
      fit = g.2;
      why = inl (record { end = end; judged = judged; over = over });
    }

first_by : (image : Image) (audits : List AuditAt) (steps : List CertStep) (number : ℕ) (j : Judged) → roots_judged image audits (at steps (zeros audits)) ≡ j → Goes image audits steps j
    → answer_of steps j ≡ No number → IsFirstMisfit image audits steps number
first_by image audits steps number (Ok end) judged g is = surplus image audits steps end end.left number judged refl g is
first_by image audits steps number (Err left) judged g is = record {
  before = g.0;
  left = left;
  parts = g.1;
  counted = number_is steps g.0 left number g.1 is;
  fit = g.2;
  why = inr g.3;
}

pub misfits_are_first : MisfitsAreFirst
misfits_are_first image audits steps number is =
    first_by image audits steps number (roots_judged image audits (at steps (zeros audits))) refl (roots_good image audits (at steps (zeros audits))) is
