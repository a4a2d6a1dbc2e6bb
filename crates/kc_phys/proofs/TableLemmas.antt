-- The runs of a table of segments, by halves, and how many there are.
use Rattle.std.proofs.Common.{◌≡◌, ℕ, suc, ◌+◌, ◌*◌, ◌^◌, ◌<◌, ◌≤◌, Bool, true, false, cond, List, [], ◌∷◌, ◌++◌, length, map, Option, Some, refl, sym, ap, ◌∙◌, subst, arith}
use Rattle.std.specs.Prelude.{IsTrue, nat_eq, ◌||◌}
use Rattle.std.specs.List.{AllByRecursion, IsDistinct, list_any, position_from}
use Rattle.std.specs.Option.{option_or}
use Rattle.std.specs.Set.{is_member}
use Rattle.std.proofs.lemmas.Bool.{eqb-true}
use Rattle.std.proofs.lemmas.Bool.Decides.{nat_tests}
use Rattle.std.proofs.lemmas.Cmp.{nat_eq_equiv}
use Rattle.std.proofs.lemmas.List.Folds.{list_any-append}
use Rattle.std.proofs.lemmas.Map.Made.{length-le_from_is_member}
use Rattle.kc_word.specs.declared.plain.Segment.{Segment}
use Rattle.kc_phys.specs.declared.runs.Part.{Part}
use Rattle.kc_phys.specs.declared.runs.Run.{Run}
use Rattle.kc_phys.specs.Runs.{GoUp, HasEdges, StandApart, edges, has, segment_at, words_of}

-- ---- two halves

position_cons : (b : Bool) (n : ℕ) (o p : Option ℕ) → cond b (Some n) (option_or o p) ≡ option_or (cond b (Some n) o) p
position_cons true n o p = refl
position_cons false n o p = refl

position_append : (test : Segment → Bool) (place : ℕ) (xs ys : List Segment) → position_from test place (xs ++ ys) ≡ option_or (position_from test place xs) (position_from test (place + length xs) ys)
position_append test place [] ys = ap (λ n. position_from test n ys) (omega arith)
position_append test place (x ∷ xs) ys =
    let next : place + 1 + length xs ≡ place + suc (length xs) = omega arith in
    ap (λ o. cond (test x) (Some place) o) (position_append test (place + 1) xs ys ∙ ap (λ n. option_or (position_from test (place + 1) xs) (position_from test n ys)) next)
    ∙ position_cons (test x) place (position_from test (place + 1) xs) (position_from test (place + suc (length xs)) ys)

edges_append : (part : Part) (xs ys : List Segment) → edges part (xs ++ ys) ≡ edges part xs ++ edges part ys
edges_append part [] ys = refl
edges_append part (x ∷ xs) ys = ap (λ l. (words_of part 0 x).first ∷ (words_of part 0 x).end ∷ l) (edges_append part xs ys)

in_first : (n : ℕ) (xs ys : List ℕ) → IsTrue (is_member nat_eq xs n) → IsTrue (is_member nat_eq (xs ++ ys) n)
in_first n xs ys is = list_any-append (nat_eq n) xs ys ∙ ap (λ b. b || list_any (nat_eq n) ys) is

or_true : (b : Bool) → (b || true) ≡ true
or_true true = refl
or_true false = refl

in_second : (n : ℕ) (xs ys : List ℕ) → IsTrue (is_member nat_eq ys n) → IsTrue (is_member nat_eq (xs ++ ys) n)
in_second n xs ys is = list_any-append (nat_eq n) xs ys ∙ ap (λ b. list_any (nat_eq n) xs || b) is ∙ or_true (list_any (nat_eq n) xs)

more_edges : (some all : List ℕ) (rs : List Run) → ((n : ℕ) → IsTrue (is_member nat_eq some n) → IsTrue (is_member nat_eq all n)) → AllByRecursion (HasEdges some) rs → AllByRecursion (HasEdges all) rs
more_edges some all [] more has = tt
more_edges some all (r ∷ rs) more has = ((more r.first has.0.0, more r.end has.0.1), more_edges some all rs more has.1)

pub both_edges : (part : Part) (segments first second : List Segment) (over under runs : List Run) → first ++ second ≡ segments
    → AllByRecursion (HasEdges (edges part first)) over → AllByRecursion (HasEdges (edges part second)) under
    → ((all : List ℕ) → AllByRecursion (HasEdges all) over → AllByRecursion (HasEdges all) under → AllByRecursion (HasEdges all) runs)
    → AllByRecursion (HasEdges (edges part segments)) runs
both_edges part segments first second over under runs whole these those has =
    let same : edges part first ++ edges part second ≡ edges part segments = sym (edges_append part first second) ∙ ap (edges part) whole in
    has (edges part segments)
    (more_edges (edges part first) (edges part segments) over (λ n is. subst (λ (l : List ℕ). IsTrue (is_member nat_eq l n)) same (in_first n (edges part first) (edges part second) is)) these)
    (more_edges (edges part second) (edges part segments) under (λ n is. subst (λ (l : List ℕ). IsTrue (is_member nat_eq l n)) same (in_second n (edges part first) (edges part second) is)) those)

pub both_law : (test : Segment → Bool) (place word : ℕ) (segments first second : List Segment) (over under runs : List Run) → first ++ second ≡ segments
    → segment_at word over ≡ position_from test place first → segment_at word under ≡ position_from test (place + length first) second
    → segment_at word runs ≡ option_or (segment_at word over) (segment_at word under)
    → segment_at word runs ≡ position_from test place segments
both_law test place word segments first second over under runs whole these those law =
    law
    ∙ ap (λ o. option_or o (segment_at word under)) these
    ∙ ap (λ o. option_or (position_from test place first) o) those
    ∙ sym (position_append test place first second)
    ∙ ap (position_from test place) whole

-- ---- how many runs there are

edges_length : (part : Part) (segments : List Segment) → length (edges part segments) ≡ 2 * length segments
edges_length part [] = refl
edges_length part (s ∷ ss) = let rest = edges_length part ss in omega arith

apart_numbers : (n m : ℕ) → n < m → nat_eq n m ≡ false
apart_numbers n m lt = grind (arith, nat_tests)

abbrev firsts : List Run → List ℕ
firsts rs = map (λ (r : Run). r.first) rs

firsts_after : (n from limit : ℕ) (rs : List Run) → GoUp from limit rs → n < from → AllByRecursion (λ m. nat_eq n m ≡ false) (firsts rs)
firsts_after n from limit [] up lt = tt
firsts_after n from limit (r ∷ rs) up lt =
    let begins : from ≤ r.first = up.0 in
    let some : r.first < r.end = up.1.0 in
    (apart_numbers n r.first (omega arith), firsts_after n r.end limit rs up.1.1 (omega arith))

firsts_distinct : (from limit : ℕ) (rs : List Run) → GoUp from limit rs → IsDistinct nat_eq (firsts rs)
unfolding IsDistinct
firsts_distinct from limit [] up = tt
firsts_distinct from limit (r ∷ rs) up = (firsts_after r.first r.end limit rs up.1.1 up.1.0, firsts_distinct r.end limit rs up.1.1)

first_is_edge_by : (b : Bool) (all : List ℕ) (n q : ℕ) (rest : Bool) → nat_eq q n ≡ b → IsTrue (is_member nat_eq all n) → (b || rest) ≡ true → (rest ≡ true → IsTrue (is_member nat_eq all q)) → IsTrue (is_member nat_eq all q)
first_is_edge_by true all n q rest same here is ih = subst (λ (k : ℕ). IsTrue (is_member nat_eq all k)) (sym (eqb-true q n same)) here
first_is_edge_by false all n q rest same here is ih = ih is

first_is_edge : (all : List ℕ) (rs : List Run) (q : ℕ) → AllByRecursion (HasEdges all) rs → is_member nat_eq (firsts rs) q ≡ true → is_member nat_eq all q ≡ true
first_is_edge all [] q has is = absurd (let none : ⊥ = cc in none)
first_is_edge all (r ∷ rs) q has is = first_is_edge_by (nat_eq q r.first) all r.first q (list_any (nat_eq q) (firsts rs)) refl has.0.0 is (λ there. first_is_edge all rs q has.1 there)

firsts_length : (rs : List Run) → length (firsts rs) ≡ length rs
firsts_length [] = refl
firsts_length (r ∷ rs) = ap (λ (n : ℕ). suc n) (firsts_length rs)

-- each begins at an edge of its own
pub few_runs : (part : Part) (segments : List Segment) (runs : List Run) → StandApart runs → AllByRecursion (HasEdges (edges part segments)) runs → length runs ≤ 2 * length segments
few_runs part segments runs apart has =
    let few = length-le_from_is_member nat_eq_equiv (firsts runs) (edges part segments) (firsts_distinct 0 (2 ^ 62) runs apart) (λ q is. first_is_edge (edges part segments) runs q has is) in
    let same = firsts_length runs in
    let twice = edges_length part segments in
    omega (arith, few, same, twice)
