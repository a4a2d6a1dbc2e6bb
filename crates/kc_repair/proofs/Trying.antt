-- Suspects that were tried so far.
use Rattle.std.proofs.Common.{◌≡◌, ℕ, zero, suc, ◌+◌, ◌<◌, ◌≤◌, min, nat_lt, Bool, Result, Ok, Err, List, [], ◌∷◌, ◌++◌, length, get_or, take, find, Option, Some, None, refl, sym, ap, ◌∙◌}
use Rattle.std.specs.Prelude.{IfOk, IfSome}
use Rattle.std.proofs.lemmas.List.{length-take, take_all, take_more}
use Rattle.kc_memory.specs.Image.{Image}
use Rattle.kc_found.specs.declared.verdict.Verdict.{Verdict}
use Rattle.kc_found.specs.declared.verdict.Verdict.TheVariants.{Clean, Broken}
use Rattle.kc_found.specs.Failures.{CountsFailures}
use Rattle.kc_found.specs.declared.failed.ReadFailed.{ReadFailed}
use Rattle.kc_found.specs.declared.failed.ReadFailed.TheVariants.{Fault, NoMemory}
use Rattle.kc_repair.specs.declared.suspect.suspect.Suspect.{Suspect}
use Rattle.kc_repair.specs.declared.outcome.Breach.{Breach}
use Rattle.kc_repair.specs.declared.outcome.Next.{Next}
use Rattle.kc_repair.specs.declared.outcome.Repair.TheVariants.{Nothing}
use Rattle.kc_repair.specs.Repairs.{ends_with, first_next, if_told, most, next_of, or_later, repair_by, repairs, stands_of}

-- the first of something, and else what comes later
abbrev or_first : {X : Type 0} → Option X → Option X → Option X
or_first None later = later
or_first (Some x) later = Some x

-- what is told of the first of which something is told
pub record Firsts {X : Type 0} (tell : Suspect → Option X) (first : List Suspect → Option X) : Type 0 where
  pub nil : first [] ≡ None
  pub step : (s : Suspect) (later : List Suspect) → first (s ∷ later) ≡ or_first (tell s) (first later)

step_repairs : (judge : Suspect → Verdict) (s : Suspect) (later : List Suspect) (verdict : Verdict) → judge s ≡ verdict
    → find (repairs judge) (s ∷ later) ≡ or_first (stands_of s (judge s)) (find (repairs judge) later)
step_repairs judge s later (Clean counts) is = rw is refl
step_repairs judge s later (Broken v) is = rw is refl

pub firsts_repair : (judge : Suspect → Verdict) → Firsts (λ s. stands_of s (judge s)) (λ xs. find (repairs judge) xs)
firsts_repair judge = record { nil = refl; step = λ s later. step_repairs judge s later (judge s) refl }

step_next : (first later : Option Next) → or_later first later ≡ or_first first later
step_next None later = refl
step_next (Some next) later = refl

pub firsts_lead : (judge : Suspect → Verdict) (found : Breach) → Firsts (λ s. next_of found s (judge s)) (λ xs. first_next judge found xs)
firsts_lead judge found = record { nil = refl; step = λ s later. step_next (next_of found s (judge s)) (first_next judge found later) }

or_first_assoc : {X : Type 0} (a b c : Option X) → or_first a (or_first b c) ≡ or_first (or_first a b) c
or_first_assoc None b c = refl
or_first_assoc (Some x) b c = refl

first_append : {X : Type 0} (tell : Suspect → Option X) (first : List Suspect → Option X) → Firsts tell first → (xs ys : List Suspect) → first (xs ++ ys) ≡ or_first (first xs) (first ys)
first_append tell first law [] ys = sym (ap (λ o. or_first o (first ys)) law.nil)
first_append tell first law (x ∷ xs) ys =
    law.step x (xs ++ ys) ∙ ap (or_first (tell x)) (first_append tell first law xs ys) ∙ or_first_assoc (tell x) (first xs) (first ys)
    ∙ sym (ap (λ o. or_first o (first ys)) (law.step x xs))

one : {X : Type 0} (tell : Suspect → Option X) (first : List Suspect → Option X) → Firsts tell first → (x : Suspect) → first (x ∷ []) ≡ tell x
one {X = X} tell first law x = law.step x [] ∙ ap (or_first (tell x)) law.nil ∙ at (tell x)
  where
    at : (o : Option X) → or_first o None ≡ o
    at None = refl
    at (Some y) = refl

-- one more
grows : {X : Type 0} (tell : Suspect → Option X) (first : List Suspect → Option X) → Firsts tell first → (xs : List Suspect) (i : ℕ) (d : Suspect) → i < length xs → first (take i xs) ≡ None
    → first (take (i + 1) xs) ≡ tell (get_or xs i d)
grows tell first law xs i d lt none =
    ap first (take_more xs i d lt) ∙ first_append tell first law (take i xs) (get_or xs i d ∷ []) ∙ ap (λ o. or_first o (first (get_or xs i d ∷ []))) none ∙ one tell first law (get_or xs i d)

front : {X : Type 0} (tell : Suspect → Option X) (first : List Suspect → Option X) → Firsts tell first → (n : ℕ) (xs : List Suspect) (y : X) → first (take n xs) ≡ Some y → first xs ≡ Some y
front {X = X} tell first law zero xs y is = let is : None ≡ Some y = sym law.nil ∙ is in absurd (let never : ⊥ = cc in never)
front {X = X} tell first law (suc n) [] y is = is
front {X = X} tell first law (suc n) (x ∷ xs) y is = law.step x xs ∙ at (tell x) (front tell first law n xs y) (sym (law.step x (take n xs)) ∙ is)
  where
    at : (o : Option X) → (first (take n xs) ≡ Some y → first xs ≡ Some y) → or_first o (first (take n xs)) ≡ Some y → or_first o (first xs) ≡ Some y
    at None rest later = rest later
    at (Some z) rest later = later

-- ---- after a trial

no_more : {X : Type 0} (o : Option X) → ends_with o ≡ None → o ≡ None
no_more None is = refl
no_more (Some x) is = let never : ⊥ = cc in absurd never

-- the search goes on
pub goes_on : {X : Type 0} (image image' : Option Image) (judge : Image → Suspect → Verdict) (tell : Suspect → Verdict → Option X) (first : (Suspect → Verdict) → List Suspect → Option X)
    (suspects : List Suspect) (i : ℕ) (d : Suspect) (r : Result Verdict ReadFailed) (ended : Option (Result (Option X) ReadFailed))
    → ((j : Suspect → Verdict) → Firsts (λ s. tell s (j s)) (first j))
    → image' ≡ image → i < length suspects → IfOk r (λ verdict. IfSome image' (λ m. judge m (get_or suspects i d) ≡ verdict))
    → IfSome image (λ m. first (judge m) (take i suspects) ≡ None) → ended ≡ if_told (tell (get_or suspects i d)) r → ended ≡ None
    → IfSome image (λ m. first (judge m) (take (i + 1) suspects) ≡ None)
goes_on None image' judge tell first suspects i d r ended law same lt exact so_far on goes = tt
goes_on (Some m) image' judge tell first suspects i d (Err stop) ended law same lt exact so_far on goes = let never : ⊥ = cc in absurd never
goes_on (Some m) image' judge tell first suspects i d (Ok verdict) ended law same lt exact so_far on goes =
    let s : Suspect = get_or suspects i d in
    let is : judge m s ≡ verdict = rw same at exact in
    grows (λ x. tell x (judge m x)) (first (judge m)) (law (judge m)) suspects i d lt so_far ∙ ap (tell s) is ∙ no_more (tell s verdict) (sym on ∙ goes)

-- it ends with this one
pub ends : {X : Type 0} (image image' : Option Image) (judge : Image → Suspect → Verdict) (tell : Suspect → Verdict → Option X) (first : (Suspect → Verdict) → List Suspect → Option X)
    (suspects : List Suspect) (i : ℕ) (d : Suspect) (r : Result Verdict ReadFailed) (answer : Result (Option X) ReadFailed)
    → ((j : Suspect → Verdict) → Firsts (λ s. tell s (j s)) (first j))
    → image' ≡ image → i < length suspects → IfOk r (λ verdict. IfSome image' (λ m. judge m (get_or suspects i d) ≡ verdict))
    → IfSome image (λ m. first (judge m) (take i suspects) ≡ None) → Some answer ≡ if_told (tell (get_or suspects i d)) r
    → IfOk answer (λ found. IfSome image (λ m. first (judge m) suspects ≡ found))
ends {X = X} image image' judge tell first suspects i d (Err stop) answer law same lt exact so_far on = let is : answer ≡ Err stop = cc in rw is tt
ends {X = X} image image' judge tell first suspects i d (Ok verdict) answer law same lt exact so_far on = at (tell (get_or suspects i d) verdict) refl on
  where
    told : (m : Image) (x : X) → image ≡ Some m → tell (get_or suspects i d) verdict ≡ Some x → first (judge m) suspects ≡ Some x
    told m x here is =
        let so_far : first (judge m) (take i suspects) ≡ None = rw here at so_far in
        let comes : judge m (get_or suspects i d) ≡ verdict = rw (same ∙ here) at exact in
        front (λ y. tell y (judge m y)) (first (judge m)) (law (judge m)) (i + 1) suspects x
        (grows (λ y. tell y (judge m y)) (first (judge m)) (law (judge m)) suspects i d lt so_far ∙ ap (tell (get_or suspects i d)) comes ∙ is)

    all : (o : Option Image) (x : X) → image ≡ o → tell (get_or suspects i d) verdict ≡ Some x → IfSome o (λ m. first (judge m) suspects ≡ Some x)
    all None x here is = tt
    all (Some m) x here is = told m x here is

    at : (o : Option X) → tell (get_or suspects i d) verdict ≡ o → Some answer ≡ ends_with o → IfOk answer (λ found. IfSome image (λ m. first (judge m) suspects ≡ found))
    at None is on = let never : ⊥ = cc in absurd never
    at (Some x) is on = let answered : answer ≡ Ok (Some x) = cc in rw answered (all image x refl is)

-- and none does
pub at_end : {X : Type 0} (image : Option Image) (first : Image → List Suspect → Option X) (suspects : List Suspect) (i : ℕ) → length suspects ≤ i
    → IfSome image (λ m. first m (take i suspects) ≡ None) → IfSome image (λ m. first m suspects ≡ None)
at_end None first suspects i past none = tt
at_end (Some m) first suspects i past none = ap (first m) (sym (take_all i suspects past)) ∙ none

-- what is answered then
pub none-repairs : (image : Option Image) (lead : Image → Suspect → Verdict) (found : Breach) (suspects tried : List Suspect) (answer : Result (Option Next) ReadFailed) (next : Option Next) (more : Bool)
    → tried ≡ take most suspects → more ≡ nat_lt most (length suspects) → answer ≡ Ok next → IfOk answer (λ n. IfSome image (λ m. first_next (lead m) found tried ≡ n))
    → IfSome image (λ m. repair_by (lead m) found suspects None ≡ Nothing (length tried) more next)
none-repairs None lead found suspects tried answer next more are beyond is exact = tt
none-repairs (Some m) lead found suspects tried answer next more are beyond is exact =
    let leads : first_next (lead m) found tried ≡ next = rw is at exact in
    let count : min most (length suspects) ≡ length tried = sym (ap length are ∙ length-take most suspects) in
    ap (λ (n : ℕ). Nothing n (nat_lt most (length suspects)) (first_next (lead m) found (take most suspects))) count
    ∙ ap (λ (b : Bool). Nothing (length tried) b (first_next (lead m) found (take most suspects))) (sym beyond)
    ∙ ap (λ (o : Option Next). Nothing (length tried) more o) (ap (first_next (lead m) found) (sym are) ∙ leads)

-- the count of failures after a trial
pub quiet : {X : Type 0} (tell : Verdict → Option X) (r : Result Verdict ReadFailed) (ended : Option (Result (Option X) ReadFailed)) (old new : ℕ)
    → ended ≡ if_told tell r → ended ≡ None → CountsFailures r old new → new ≡ old
quiet tell (Ok verdict) ended old new on goes cause = cause
quiet tell (Err stop) ended old new on goes cause = let never : ⊥ = cc in absurd never

pub stopped : {X : Type 0} (tell : Verdict → Option X) (r : Result Verdict ReadFailed) (answer : Result (Option X) ReadFailed) (before old new : ℕ)
    → Some answer ≡ if_told tell r → old ≡ before → CountsFailures r old new → CountsFailures answer before new
stopped {X = X} tell (Ok verdict) answer before old new on same cause = at (tell verdict) on
  where
    at : (o : Option X) → Some answer ≡ ends_with o → CountsFailures answer before new
    at None on = let never : ⊥ = cc in absurd never
    at (Some x) on = let is : answer ≡ Ok (Some x) = cc in rw is (cause ∙ same)
stopped {X = X} tell (Err stop) answer before old new on same cause = let is : answer ≡ Err stop = cc in rw is (rw same at (same_cause stop cause))
  where
    same_cause : (stop : ReadFailed) → CountsFailures {A = Verdict} (Err stop) old new → CountsFailures {A = Option X} (Err stop) old new
    same_cause Fault cause = cause
    same_cause NoMemory cause = cause
