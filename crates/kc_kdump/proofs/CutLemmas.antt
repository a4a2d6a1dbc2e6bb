-- Runs of which only so many pages are in the file.
use Rattle.std.proofs.Common.{◌≡◌, ℕ, zero, suc, ◌+◌, ◌-◌, ◌≤◌, ◌<◌, min, Bool, true, false, List, [], ◌∷◌, ◌++◌, length, get_or, take, drop, Option, Some, None, IfSome, refl, sym, ap, ◌∙◌, arith, add-one, append_assoc, append-nil, if◌then◌else◌}
use Rattle.std.proofs.Math.Seq.{drop-cons}
use Rattle.kc_outside.specs.declared.store.Slot.{Slot}
use Rattle.kc_outside.specs.Files.{Files}
use Rattle.kc_kdump.specs.declared.run.PageRun.{PageRun}
use Rattle.kc_kdump.specs.Laws.{frames_in, row}
use Rattle.kc_kdump.specs.Stays.{StoreStays}
use Rattle.kc_kdump.specs.Runs.{cut_run, cut_runs, end_of, page_count, reach}

-- what stays over two calls
pub stays_on : {M : Type 0} (opened : M → Slot → Option (List ℕ)) (sizes : M → Slot → Option ℕ) (files : M → Option Files) (may : M → Slot → List ℕ → Type 0) (asked : M → ℕ) (a b c : M)
    → StoreStays opened sizes files may asked a b → StoreStays opened sizes files may asked b c → StoreStays opened sizes files may asked a c
stays_on opened sizes files may asked a b c one two = record {
  same_opened = two.same_opened ∙ one.same_opened;
  same_sizes = two.same_sizes ∙ one.same_sizes;
  same_files = two.same_files ∙ one.same_files;
  may_still = λ s n is. two.may_still s n (one.may_still s n is);
  may_no_more = λ s n is. one.may_no_more s n (two.may_no_more s n is);
  asked_later = omega (arith, one.asked_later, two.asked_later);
}

-- ---- runs

cut_one : (n : ℕ) (r : PageRun) → r.dumped ≤ n → cut_run n r ≡ r
cut_one n r room =
    let few : min n r.dumped ≡ r.dumped = omega arith in
    let none : r.left + (r.dumped - n) ≡ r.left = omega arith in
    ap (λ (d : ℕ). record { first = r.first; dumped = d; left = r.left + (r.dumped - n) }) few
    ∙ ap (λ (l : ℕ). record { first = r.first; dumped = r.dumped; left = l }) none

-- where there is room for all, nothing is cut
cut_none : (n : ℕ) (runs : List PageRun) → page_count runs ≤ n → cut_runs n runs ≡ runs
unfolding cut_runs
cut_none n [] room = refl
cut_none n (r ∷ rs) room =
    ap (λ (q : PageRun). q ∷ cut_runs (n - r.dumped) rs) (cut_one n r (omega arith))
    ∙ ap (λ (qs : List PageRun). r ∷ qs) (cut_none (n - r.dumped) rs (omega arith))

pub cut_all : (n : ℕ) (runs : List PageRun) → page_count runs ≤ n → runs ≡ cut_runs n runs
cut_all n runs room = sym (cut_none n runs room)

pub cut_count : (n : ℕ) (runs : List PageRun) → page_count (cut_runs n runs) ≡ min n (page_count runs)
unfolding cut_runs
cut_count n [] = omega arith
cut_count n (r ∷ rs) = let rest = cut_count (n - r.dumped) rs in omega (arith, rest)

pub cut_reach : (n : ℕ) (runs : List PageRun) → reach (cut_runs n runs) ≡ reach runs
unfolding cut_runs
cut_reach n [] = refl
cut_reach n (r ∷ rs) = let rest = cut_reach (n - r.dumped) rs in omega (arith, rest)

-- what was cut
pub count_of : (there : ℕ) (runs cut : List PageRun) → cut ≡ cut_runs there runs → there ≤ page_count runs → there ≡ page_count cut
count_of there runs cut is few = let all = ap page_count is ∙ cut_count there runs in omega (arith, all)

pub reach_of : (there : ℕ) (runs cut : List PageRun) → cut ≡ cut_runs there runs → reach cut ≡ reach runs
reach_of there runs cut is = ap reach is ∙ cut_reach there runs

-- a run of many
pub reach_at : (runs : List PageRun) (i : ℕ) (d : PageRun) → i < length runs → end_of (get_or runs i d) ≤ reach runs
reach_at [] i d here = absurd (omega arith)
reach_at (r ∷ rs) zero d here = omega arith
reach_at (r ∷ rs) (suc i) d here = let rest = reach_at rs i d (omega arith) in omega (arith, rest)

pub cut_more : (cut new runs all : List PageRun) (left there i : ℕ) (d : PageRun) → i < length runs → new ≡ cut ++ cut_run left (get_or runs i d) ∷ []
    → cut ++ cut_runs left (drop i runs) ≡ all
    → new ++ cut_runs (left - (get_or runs i d).dumped) (drop (i + 1) runs) ≡ all
unfolding cut_runs
cut_more cut new runs all left there i d here is whole =
    let run = get_or runs i d in
    let rest = cut_runs (left - run.dumped) (drop (suc i) runs) in
    ap (λ (k : ℕ). new ++ cut_runs (left - run.dumped) (drop k runs)) (add-one i)
    ∙ ap (λ (rs : List PageRun). rs ++ rest) is
    ∙ append_assoc cut (cut_run left run ∷ []) rest
    ∙ ap (λ (rs : List PageRun). cut ++ cut_runs left rs) (sym (drop-cons runs i d here))
    ∙ whole

drop_past : {X : Type 0} (xs : List X) (i : ℕ) → length xs ≤ i → drop i xs ≡ []
drop_past [] zero past = refl
drop_past [] (suc i) past = refl
drop_past (x ∷ xs) zero past = absurd (omega arith)
drop_past (x ∷ xs) (suc i) past = drop_past xs i (omega arith)

pub cut_end : (cut runs all : List PageRun) (left i : ℕ) → length runs ≤ i → cut ++ cut_runs left (drop i runs) ≡ all → cut ≡ all
unfolding cut_runs
cut_end cut runs all left i past whole =
    sym (append-nil cut) ∙ ap (λ (rs : List PageRun). cut ++ cut_runs left rs) (sym (drop_past runs i past)) ∙ whole

-- ---- the pages that are left are the first

take_zero : (xs : List ℕ) → take 0 xs ≡ []
take_zero [] = refl
take_zero (x ∷ xs) = refl

row_none : (pfn k : ℕ) → k ≡ 0 → row pfn k ≡ []
unfolding row
row_none pfn zero none = refl
row_none pfn (suc k) none = absurd (omega (arith, none))

row_take : (n pfn k : ℕ) → row pfn (min n k) ≡ take n (row pfn k)
unfolding row
row_take zero pfn k = row_none pfn (min 0 k) (omega arith) ∙ sym (take_zero (row pfn k))
row_take (suc n) pfn zero = row_none pfn (min (suc n) 0) (omega arith)
row_take (suc n) pfn (suc k) =
    let less : min (suc n) (suc k) ≡ suc (min n k) = omega arith in
    ap (λ (m : ℕ). row pfn m) less ∙ ap (λ (xs : List ℕ). pfn ∷ xs) (row_take n (pfn + 1) k)

row_long : (pfn k : ℕ) → length (row pfn k) ≡ k
unfolding row
row_long pfn zero = refl
row_long pfn (suc k) = let rest = row_long (pfn + 1) k in omega (arith, rest)

take_both : (n : ℕ) (xs ys : List ℕ) → take n (xs ++ ys) ≡ take n xs ++ take (n - length xs) ys
take_both zero xs ys =
    let none : 0 - length xs ≡ 0 = omega arith in
    take_zero (xs ++ ys)
    ∙ sym (ap (λ (zs : List ℕ). zs ++ take (0 - length xs) ys) (take_zero xs) ∙ ap (λ (k : ℕ). take k ys) none ∙ take_zero ys)
take_both (suc n) [] ys =
    let none : List ℕ = [] in
    let same : suc n ≡ suc n - length none = omega arith in
    ap (λ (k : ℕ). take k ys) same
take_both (suc n) (x ∷ xs) ys =
    let less : n - length xs ≡ suc n - length (x ∷ xs) = omega arith in
    ap (λ (zs : List ℕ). x ∷ zs) (take_both n xs ys ∙ ap (λ (k : ℕ). take n xs ++ take k ys) less)

take_nothing : (n : ℕ) (none : List ℕ) → none ≡ [] → take n none ≡ []
take_nothing zero [] is = refl
take_nothing (suc n) [] is = refl
take_nothing n (x ∷ xs) is = absurd (let none : ⊥ = cc in none)

pub cuts_first : (n : ℕ) (runs : List PageRun) → frames_in (cut_runs n runs) ≡ take n (frames_in runs)
unfolding cut_runs
cuts_first n [] = sym (take_nothing n [] refl)
cuts_first n (r ∷ rs) =
    let first = row r.first r.dumped in
    ap (λ (xs : List ℕ). xs ++ frames_in (cut_runs (n - r.dumped) rs)) (row_take n r.first r.dumped)
    ∙ ap (λ (xs : List ℕ). take n first ++ xs) (cuts_first (n - r.dumped) rs)
    ∙ ap (λ (k : ℕ). take n first ++ take (n - k) (frames_in rs)) (sym (row_long r.first r.dumped))
    ∙ sym (take_both n first (frames_in rs))
