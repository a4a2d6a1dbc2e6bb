-- The verdicts of root audits.
use Rattle.std.proofs.Common.{◌≡◌, ℕ, zero, suc, ◌+◌, ◌<◌, Bool, true, false, nat_lt, List, [], ◌∷◌, ◌++◌, length, drop, take, slice_get, map, ◌≤◌, Option, Some, None, Ok, Err, refl, sym, subst, ◌∙◌, ap, arith, append_assoc, append-nil, add-one}
use Rattle.std.specs.Prelude.{◌↔◌, if◌then◌else◌, All, IfSome, unwrap_or}
use Rattle.std.specs.List.{AllByRecursion, AllZip, list_all}
use Rattle.std.proofs.lemmas.Bool.{and_from, and_parts, lt-ltb, ltb-true}
use Rattle.std.proofs.lemmas.List.{drop_all, map-append}
use Rattle.kc_memory.specs.Image.{Image}
use Rattle.kc_found.specs.declared.found.WalkStop.TheVariants as ends
use Rattle.kc_found.specs.declared.verdict.AuditCount.{AuditCount}
use Rattle.kc_found.specs.declared.verdict.RootVerdict.{RootVerdict}
use Rattle.kc_found.specs.declared.verdict.Verdict.{Verdict}
use Rattle.kc_found.specs.declared.verdict.Verdict.TheVariants.{Clean, Broken}
use Rattle.kc_found.specs.Violations.{Violation}
use Rattle.kc_plan.specs.Events.{Event, Walk, Wrong, count_of, counts_of, first_wrong, verdict_of}
use Rattle.kc_plan.specs.Planned.{AuditAt, StartAt}
use Rattle.kc_plan.specs.Planned.StartAt.{RootAt, FromAt}
use Rattle.kc_plan.specs.Roots.{FitEach, FitsRoot, Root, broken_in, first_broken, is_among, or_later, reached, reached_from, root_in, root_seen, root_verdict, root_verdicts, verdict_among}
use Rattle.kc_plan.specs.Seen.{World, all_seen, in_turn, root_of, roots, seen, world}
use Rattle.kc_plan.specs.Stands.{RootStands}
use Rattle.kc_plan.specs.Verdicts.{IsClean, verdict}
use Rattle.kc_run.specs.Each.{AddsRoots, IsRoot}
use Rattle.kc_run.specs.Laws.{CleanRootsStand, FirstOfRoots}
use Rattle.kc_run.specs.Tally.{TalliesAs, count_at, counts_at, no_walk, zeros}
use Rattle.kc_run.proofs.Counting.{outcome, tally_from_zeros}
use Rattle.kc_run.proofs.Going.{drop_at, roots_at}

-- one number more of a list that is added
taken_next : {X : Type 0} (xs : List X) (i : ℕ) (x : X) → slice_get xs i ≡ Some x → take (suc i) xs ≡ take i xs ++ x ∷ []
taken_next [] i x is = absurd (let none : ⊥ = cc in none)
taken_next (y ∷ ys) zero x is = let same : y ≡ x = cc in ap (λ z. z ∷ []) same
taken_next (y ∷ ys) (suc i) x is = ap (λ zs. y ∷ zs) (taken_next ys i x is)

pub taken_more : {X : Type 0} (xs : List X) (i : ℕ) (x : X) → slice_get xs i ≡ Some x → take (i + 1) xs ≡ take i xs ++ x ∷ []
taken_more xs i x is = rw add-one (taken_next xs i x is)

pub number_added : (front xs now more : List ℕ) (i x : ℕ) → slice_get xs i ≡ Some x → now ≡ front ++ take i xs → more ≡ now ++ x ∷ [] → more ≡ front ++ take (i + 1) xs
number_added front xs now more i x is before pushed =
    rw (pushed, before, taken_more xs i x is) (append_assoc front (take i xs) (x ∷ []))

-- the audits that are reached, and then those that are among what is left
reach_here : (n : ℕ) (some : List ℕ) (a : AuditAt) (later : List AuditAt) → is_among n some ≡ true → reached some n (a ∷ later) ≡ n ∷ reached (some ++ a.each) (suc n) later
reach_here n some a later is = rw is refl

reach_past : (n : ℕ) (some : List ℕ) (a : AuditAt) (later : List AuditAt) → is_among n some ≡ false → reached some n (a ∷ later) ≡ reached some (suc n) later
reach_past n some a later is = rw is refl

next : (n : ℕ) → suc n ≡ n + 1
next n = omega arith

pub reach_goes : (audits : List AuditAt) (a : AuditAt) (n : ℕ) (some more front further whole : List ℕ) → slice_get audits n ≡ Some a → is_among n some ≡ true → more ≡ some ++ a.each → further ≡ front ++ n ∷ [] →
    front ++ reached some n (drop n audits) ≡ whole → further ++ reached more (n + 1) (drop (n + 1) audits) ≡ whole
reach_goes audits a n some more front further whole is among added pushed left =
    let here : reached some n (drop n audits) ≡ n ∷ reached (some ++ a.each) (n + 1) (drop (n + 1) audits) =
    ap (reached some n) (drop_at audits n a is) ∙ reach_here n some a (drop (n + 1) audits) among ∙ ap (λ k. n ∷ reached (some ++ a.each) k (drop (n + 1) audits)) (next n) in
    rw (added, pushed)
    (append_assoc front (n ∷ []) (reached (some ++ a.each) (n + 1) (drop (n + 1) audits)) ∙ ap (λ ns. front ++ ns) (sym here) ∙ left)

item_at : (audits : List AuditAt) (n : ℕ) → n < length audits → (a : AuditAt) × (slice_get audits n ≡ Some a)
item_at [] n lt = absurd (omega arith)
item_at (a ∷ later) zero lt = (a, refl)
item_at (a ∷ later) (suc n) lt = item_at later n (omega arith)

pub reach_passes : (audits : List AuditAt) (n : ℕ) (some front whole : List ℕ) → n < length audits → is_among n some ≡ false →
    front ++ reached some n (drop n audits) ≡ whole → front ++ reached some (n + 1) (drop (n + 1) audits) ≡ whole
reach_passes audits n some front whole lt among left =
    let a = item_at audits n lt in
    let here : reached some n (drop n audits) ≡ reached some (n + 1) (drop (n + 1) audits) =
    ap (reached some n) (drop_at audits n a.0 a.1) ∙ reach_past n some a.0 (drop (n + 1) audits) among ∙ ap (λ k. reached some k (drop (n + 1) audits)) (next n) in
    ap (λ ns. front ++ ns) (sym here) ∙ left

pub reach_ends : (audits : List AuditAt) (n : ℕ) (some front whole : List ℕ) → length audits ≤ n → front ++ reached some n (drop n audits) ≡ whole → front ≡ whole
reach_ends audits n some front whole size left =
    let none : reached some n (drop n audits) ≡ [] = ap (reached some n) (drop_all n audits size) in
    sym (append-nil front) ∙ ap (λ ns. front ++ ns) (sym none) ∙ left

-- they are the plan's
are_below : ℕ → List ℕ → Bool
are_below count numbers = list_all (λ n. nat_lt n count) numbers

below_next : (k count : ℕ) (some more : List ℕ) (later : List AuditAt) (b : Bool) → k < count → are_below count (reached more (suc k) later) ≡ true → are_below count (reached some (suc k) later) ≡ true →
    are_below count (if b then k ∷ reached more (suc k) later else reached some (suc k) later) ≡ true
unfolding are_below
below_next k count some more later true lt here past = and_from (nat_lt k count) (list_all (λ n. nat_lt n count) (reached more (suc k) later)) (lt-ltb k count lt) here
below_next k count some more later false lt here past = past

all_below : (some : List ℕ) (k count : ℕ) (audits : List AuditAt) → count ≡ k + length audits → are_below count (reached some k audits) ≡ true
unfolding are_below
all_below some k count [] size = refl
all_below some k count (a ∷ later) size =
    let this : count ≡ k + suc (length later) = size in
    let lt : k < count = omega (arith, this) in
    let past : count ≡ suc k + length later = omega (arith, this) in
    below_next k count some (some ++ a.each) later (is_among k some) lt (all_below (some ++ a.each) (suc k) count later past) (all_below some (suc k) count later past)

pub reached_below : (root count : ℕ) (audits : List AuditAt) (numbers : List ℕ) → count ≡ length audits → numbers ≡ reached_from root audits → list_all (λ n. nat_lt n count) numbers ≡ true
unfolding are_below
reached_below root count audits numbers size is =
    let whole : count ≡ 0 + length audits = omega (arith, size) in
    rw is (all_below (root ∷ []) 0 count audits whole)

pub number_below : (numbers : List ℕ) (count i n : ℕ) → list_all (λ n. nat_lt n count) numbers ≡ true → slice_get numbers i ≡ Some n → n < count
number_below [] count i n all is = absurd (let none : ⊥ = cc in none)
number_below (m ∷ ms) count zero n all is =
    let same : m ≡ n = cc in
    subst (λ n. n < count) same (ltb-true m count (and_parts (nat_lt m count) (list_all (λ n. nat_lt n count) ms) all).0)
number_below (m ∷ ms) count (suc i) n all is = number_below ms count i n (and_parts (nat_lt m count) (list_all (λ n. nat_lt n count) ms) all).1 is

-- a count more
pub count_added : (counts : List AuditCount) (numbers : List ℕ) (i n : ℕ) (count : AuditCount) (now more : List AuditCount) → slice_get numbers i ≡ Some n → slice_get counts n ≡ Some count →
    now ≡ counts_at counts (take i numbers) → more ≡ now ++ count ∷ [] → more ≡ counts_at counts (take (i + 1) numbers)
count_added counts numbers i n count now more is at before pushed =
    rw (pushed, before, taken_more numbers i n is) (sym (map-append (count_at counts) (take i numbers) (n ∷ []) ∙ ap (λ c. counts_at counts (take i numbers) ++ c ∷ []) (ap (λ o. unwrap_or o no_walk) at)))

-- the counts of all audits have those of each
count_is : (left k i : ℕ) (es : List Event) → i < left → slice_get (counts_of left k es) i ≡ Some (count_of (k + i) es)
count_is zero k i es lt = absurd (omega arith)
count_is (suc left) k zero es lt = let number : k + 0 ≡ k = omega arith in rw number refl
count_is (suc left) k (suc i) es lt = let number : k + suc i ≡ suc k + i = omega arith in rw number (count_is left (suc k) i es (omega arith))

counts_are : (count : ℕ) (es : List Event) (numbers : List ℕ) → list_all (λ n. nat_lt n count) numbers ≡ true → map (λ n. count_of n es) numbers ≡ counts_at (counts_of count 0 es) numbers
counts_are count es [] all = refl
counts_are count es (n ∷ ns) all =
    let parts = and_parts (nat_lt n count) (list_all (λ n. nat_lt n count) ns) all in
    let number : 0 + n ≡ n = omega arith in
    let here : slice_get (counts_of count 0 es) n ≡ Some (count_of n es) = rw number at (count_is count 0 n es (ltb-true n count parts.0)) in
    ap (λ cs. count_of n es ∷ cs) (counts_are count es ns parts.1) ∙ ap (λ c. c ∷ counts_at (counts_of count 0 es) ns) (sym (ap (λ o. unwrap_or o no_walk) here))

-- the verdict on a root audit, by the counts that are kept or the violation that came
clean_among : (o : Option Violation) (count : ℕ) (es : List Event) (numbers : List ℕ) (counts : List AuditCount) → outcome o (counts_of count 0 es) ≡ Ok counts → list_all (λ n. nat_lt n count) numbers ≡ true →
    verdict_among numbers es o ≡ Clean (counts_at counts numbers)
clean_among (Some v) count es numbers counts e all = absurd (let none : ⊥ = cc in none)
clean_among None count es numbers counts e all =
    let same : counts_of count 0 es ≡ counts = cc in
    ap Clean (counts_are count es numbers all ∙ ap (λ cs. counts_at cs numbers) same)

broken_among : (o : Option Violation) (es : List Event) (numbers : List ℕ) (counts : List AuditCount) (v : Violation) → outcome o counts ≡ Err v → verdict_among numbers es o ≡ Broken v
broken_among (Some w) es numbers counts v e = let same : w ≡ v = cc in ap Broken same
broken_among None es numbers counts v e = absurd (let none : ⊥ = cc in none)

pub root_clean : {A : Type 0} (image : Option Image) (audits : List AuditAt) (n start count : ℕ) (numbers : List ℕ) (counts some : List AuditCount) (x : A) → TalliesAs (λ i. seen (world i) audits 0 n start) (zeros audits) counts image (Ok x) →
    numbers ≡ reached_from n audits → count ≡ length audits → list_all (λ n. nat_lt n count) numbers ≡ true → some ≡ counts_at counts numbers → IfSome image (λ i. (root_verdict i audits (n, start)).verdict ≡ Clean some)
root_clean None audits n start count numbers counts some x e is size all picked = tt
root_clean (Some i) audits n start count numbers counts some x e is size all picked =
    let es = seen (world i) audits 0 n start in
    let here : verdict_among numbers es (first_wrong es) ≡ Clean (counts_at counts numbers) =
    clean_among (first_wrong es) (length audits) es numbers counts (sym (tally_from_zeros audits es) ∙ e) (rw size at all) in
    rw (← is, picked) here

-- the numbers are the plan's
pub all_inside : (numbers : List ℕ) (count : ℕ) → list_all (λ n. nat_lt n count) numbers ≡ true → All (λ n. n < count) numbers
all_inside [] count all k d lt = absurd (omega arith)
all_inside (n ∷ ns) count all zero d lt = ltb-true n count (and_parts (nat_lt n count) (list_all (λ n. nat_lt n count) ns) all).0
all_inside (n ∷ ns) count all (suc k) d lt = all_inside ns count (and_parts (nat_lt n count) (list_all (λ n. nat_lt n count) ns) all).1 k d (omega arith)

pub root_broken : (A : Type 0) (image : Option Image) (audits : List AuditAt) (n start : ℕ) (after : List AuditCount) (v : Violation) → TalliesAs {A = A} (λ i. seen (world i) audits 0 n start) (zeros audits) after image (Err (ends.Broken v)) →
    IfSome image (λ i. (root_verdict i audits (n, start)).verdict ≡ Broken v)
root_broken A None audits n start after v e = tt
root_broken A (Some i) audits n start after v e =
    let es = seen (world i) audits 0 n start in
    broken_among (first_wrong es) es (reached_from n audits) (counts_of (length audits) 0 es) v (sym (tally_from_zeros audits es) ∙ e)

pub root_whole : (image : Option Image) (audits : List AuditAt) (n start : ℕ) (numbers : List ℕ) (v : Verdict) → numbers ≡ reached_from n audits → IfSome image (λ i. (root_verdict i audits (n, start)).verdict ≡ v) →
    IfSome image (λ i. root_verdict i audits (n, start) ≡ record { root = n; audits = numbers; verdict = v })
root_whole None audits n start numbers v is e = tt
root_whole (Some i) audits n start numbers v is e = rw (is, ← e) refl

-- one by one
pub AreRoots : Option Image → ℕ → List AuditAt → List Root → List Root → List RootVerdict → Type 0
AreRoots image count audits whole rest verdicts = (more : List RootVerdict) → AllZip (IsRoot image count audits) rest more → AllZip (IsRoot image count audits) whole (verdicts ++ more)

zip_append : {X Y : Type 0} (R : X → Y → Type 0) (xs us : List X) (ys vs : List Y) → AllZip R xs ys → AllZip R us vs → AllZip R (xs ++ us) (ys ++ vs)
zip_append R [] us [] vs a b = b
zip_append R [] us (y ∷ ys) vs a b = absurd a
zip_append R (x ∷ xs) us [] vs a b = absurd a
zip_append R (x ∷ xs) us (y ∷ ys) vs a b = (a.0, zip_append R xs us ys vs a.1 b)

pub roots_begin : (image : Option Image) (count : ℕ) (audits : List AuditAt) (whole : List Root) (none : List RootVerdict) → none ≡ [] → AreRoots image count audits whole whole none
unfolding AreRoots
roots_begin image count audits whole none empty more are = rw empty are

pub roots_add : (image : Option Image) (count : ℕ) (audits : List AuditAt) (a : AuditAt) (n : ℕ) (whole : List Root) (before after : List RootVerdict) → slice_get audits n ≡ Some a → AddsRoots image count audits (root_of n a.start) before after →
    AreRoots image count audits whole (roots n (drop n audits)) before → AreRoots image count audits whole (roots (n + 1) (drop (n + 1) audits)) after
unfolding AreRoots
roots_add image count audits a n whole before after is adds left more are =
    let here : AllZip (IsRoot image count audits) (root_of n a.start ++ roots (n + 1) (drop (n + 1) audits)) (adds.more ++ more) =
    zip_append (IsRoot image count audits) (root_of n a.start) (roots (n + 1) (drop (n + 1) audits)) adds.more more adds.are are in
    let all : AllZip (IsRoot image count audits) whole (before ++ (adds.more ++ more)) = left (adds.more ++ more) (rw (roots_at audits a n is) here) in
    rw (adds.whole, append_assoc before adds.more more) all

pub roots_end : (image : Option Image) (count : ℕ) (audits : List AuditAt) (n : ℕ) (whole : List Root) (verdicts : List RootVerdict) → length audits ≤ n → AreRoots image count audits whole (roots n (drop n audits)) verdicts → AllZip (IsRoot image count audits) whole verdicts
unfolding AreRoots
roots_end image count audits n whole verdicts size left =
    let last : drop n audits ≡ [] = drop_all n audits size in
    let none : roots n (drop n audits) ≡ [] = ap (roots n) last in
    rw (append-nil verdicts) at (left [] (rw none tt))

-- what holds of all
zip_maps : {X Y Z : Type 0} (R : X → Y → Type 0) (f : X → Z) (g : Y → Z) (xs : List X) (ys : List Y) → ((x : X) (y : Y) → R x y → f x ≡ g y) → AllZip R xs ys → map f xs ≡ map g ys
zip_maps R f g [] [] each all = refl
zip_maps R f g [] (y ∷ ys) each all = absurd all
zip_maps R f g (x ∷ xs) [] each all = absurd all
zip_maps R f g (x ∷ xs) (y ∷ ys) each all = ap (λ z. z ∷ map f xs) (each x y all.0) ∙ ap (λ zs. g y ∷ zs) (zip_maps R f g xs ys each all.1)

zip_weaker : {X Y : Type 0} (R S : X → Y → Type 0) (xs : List X) (ys : List Y) → ((x : X) (y : Y) → R x y → S x y) → AllZip R xs ys → AllZip S xs ys
zip_weaker R S [] [] each all = tt
zip_weaker R S [] (y ∷ ys) each all = absurd all
zip_weaker R S (x ∷ xs) [] each all = absurd all
zip_weaker R S (x ∷ xs) (y ∷ ys) each all = (each x y all.0, zip_weaker R S xs ys each all.1)

same_map : {X : Type 0} (xs : List X) → map (λ x. x) xs ≡ xs
same_map [] = refl
same_map (x ∷ xs) = ap (λ ys. x ∷ ys) (same_map xs)

pub each_exact : (image : Option Image) (count : ℕ) (audits : List AuditAt) (rs : List Root) (found : List RootVerdict) → AllZip (IsRoot image count audits) rs found → IfSome image (λ i. map (root_verdict i audits) rs ≡ found)
each_exact None count audits rs found all = tt
each_exact (Some i) count audits rs found all = zip_maps (IsRoot (Some i) count audits) (root_verdict i audits) (λ v. v) rs found (λ r v is. is.exact) all ∙ same_map found

pub each_root : (image : Option Image) (count : ℕ) (audits : List AuditAt) (rs : List Root) (found : List RootVerdict) → AllZip (IsRoot image count audits) rs found → map (λ (v : RootVerdict). v.root) found ≡ map (λ (r : Root). r.0) rs
each_root image count audits rs found all = sym (zip_maps (IsRoot image count audits) (λ r. r.0) (λ v. v.root) rs found (λ r v is. sym is.root) all)

zip_all : {X Y : Type 0} (R : X → Y → Type 0) (P : Y → Type 0) (xs : List X) (ys : List Y) → ((x : X) (y : Y) → R x y → P y) → AllZip R xs ys → All P ys
zip_all R P [] [] each all k d lt = absurd (omega arith)
zip_all R P [] (y ∷ ys) each all k d lt = absurd all
zip_all R P (x ∷ xs) [] each all k d lt = absurd all
zip_all R P (x ∷ xs) (y ∷ ys) each all zero d lt = each x y all.0
zip_all R P (x ∷ xs) (y ∷ ys) each all (suc k) d lt = zip_all R P xs ys each all.1 k d (omega arith)

zip_size : {X Y : Type 0} (R : X → Y → Type 0) (xs : List X) (ys : List Y) → AllZip R xs ys → length ys ≡ length xs
zip_size R [] [] all = refl
zip_size R [] (y ∷ ys) all = absurd all
zip_size R (x ∷ xs) [] all = absurd all
zip_size R (x ∷ xs) (y ∷ ys) all = ap suc (zip_size R xs ys all.1)

root_size : (k : ℕ) (start : StartAt) (rest : List Root) (most : ℕ) → length rest ≤ most → length (root_of k start ++ rest) ≤ suc most
root_size k (RootAt symbol ty to) rest most le = omega (arith, le)
root_size k (FromAt to optional) rest most le = omega (arith, le)

few_roots : (k : ℕ) (audits : List AuditAt) → length (roots k audits) ≤ length audits
few_roots k [] = omega arith
few_roots k (a ∷ later) = root_size k a.start (roots (suc k) later) (length later) (few_roots (suc k) later)

pub each_fits : (image : Option Image) (count : ℕ) (audits : List AuditAt) (found : List RootVerdict) → length audits ≤ 256 → AllZip (IsRoot image count audits) (roots 0 audits) found → FitEach count audits found
each_fits image count audits found few all =
    let size : length found ≡ length (roots 0 audits) = zip_size (IsRoot image count audits) (roots 0 audits) found all in
    let most : length (roots 0 audits) ≤ length audits = few_roots 0 audits in
    record { few = omega (arith, few, size, most); roots = zip_all (IsRoot image count audits) (FitsRoot count audits) (roots 0 audits) found (λ r v is. is.fits) all }

pub each_stands : CleanRootsStand → (image : Option Image) (count : ℕ) (audits : List AuditAt) (rs : List Root) (found : List RootVerdict) → AllZip (IsRoot image count audits) rs found →
    IfSome image (λ i. AllZip (λ r v. IsClean v.verdict ↔ RootStands i audits r) rs found)
each_stands law None count audits rs found all = tt
each_stands law (Some i) count audits rs found all =
    zip_weaker (IsRoot (Some i) count audits) (λ r v. IsClean v.verdict ↔ RootStands i audits r) rs found (λ r v is. subst (λ (v : RootVerdict). IsClean v.verdict ↔ RootStands i audits r) is.exact (law i audits r)) all

pub one_stands : CleanRootsStand → (image : Option Image) (audits : List AuditAt) (r : Root) (found : RootVerdict) → IfSome image (λ i. root_verdict i audits r ≡ found) →
    IfSome image (λ i. IsClean found.verdict ↔ RootStands i audits r)
one_stands law None audits r found exact = tt
one_stands law (Some i) audits r found exact = subst (λ (v : RootVerdict). IsClean v.verdict ↔ RootStands i audits r) exact (law i audits r)

-- the first violation of some, and of those behind them
first_append : (es us : List Event) → first_wrong (es ++ us) ≡ or_later (first_wrong es) (first_wrong us)
first_append [] us = refl
first_append (Walk n size ∷ es) us = first_append es us
first_append (Wrong v ∷ es) us = refl

broken_is : (n : ℕ) (es : List Event) (o : Option Violation) → broken_in (verdict_of n es o) ≡ o
broken_is n es (Some v) = refl
broken_is n es None = refl

broken_root : (numbers : List ℕ) (es : List Event) (o : Option Violation) → broken_in (verdict_among numbers es o) ≡ o
broken_root numbers es (Some v) = refl
broken_root numbers es None = refl

first_of : (w : World) (audits : List AuditAt) (rs : List Root) → first_wrong (in_turn (root_seen w audits) rs) ≡ first_broken (map (root_in w audits) rs)
first_of w audits [] = refl
first_of w audits (r ∷ rs) =
    let es = root_seen w audits r in
    first_append es (in_turn (root_seen w audits) rs)
    ∙ ap (or_later (first_wrong es)) (first_of w audits rs)
    ∙ ap (λ o. or_later o (first_broken (map (root_in w audits) rs))) (sym (broken_root (reached_from r.0 audits) es (first_wrong es)))

-- clean is what isn't broken
clean_is : (v : Verdict) → broken_in v ≡ None → IsClean v
clean_is (Clean counts) is = tt
clean_is (Broken v) is = absurd (let none : ⊥ = cc in none)

is_clean : (v : Verdict) → IsClean v → broken_in v ≡ None
is_clean (Clean counts) c = refl
is_clean (Broken v) c = absurd c

none_first : (o p : Option Violation) → or_later o p ≡ None → (o ≡ None) × (p ≡ None)
none_first None p is = (refl, is)
none_first (Some v) p is = absurd (let none : ⊥ = cc in none)

all_clean : (vs : List RootVerdict) → first_broken vs ≡ None → AllByRecursion (λ (v : RootVerdict). IsClean v.verdict) vs
all_clean [] is = tt
all_clean (v ∷ vs) is = let parts = none_first (broken_in v.verdict) (first_broken vs) is in (clean_is v.verdict parts.0, all_clean vs parts.1)

clean_all : (vs : List RootVerdict) → AllByRecursion (λ (v : RootVerdict). IsClean v.verdict) vs → first_broken vs ≡ None
clean_all [] c = refl
clean_all (v ∷ vs) c = rw (is_clean v.verdict c.0) (clean_all vs c.1)

pub first_of_roots : FirstOfRoots
first_of_roots image audits =
    let es = all_seen (world image) audits in
    let first : broken_in (verdict image audits) ≡ first_broken (root_verdicts image audits) =
    broken_is (length audits) es (first_wrong es) ∙ first_of (world image) audits (roots 0 audits) in (
      first,
      λ c. all_clean (root_verdicts image audits) (sym first ∙ is_clean (verdict image audits) c),
      λ c. clean_is (verdict image audits) (first ∙ clean_all (root_verdicts image audits) c),
    )
