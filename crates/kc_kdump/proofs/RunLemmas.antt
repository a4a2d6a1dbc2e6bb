-- Runs, as they are gathered.
use Rattle.std.proofs.Common.{◌≡◌, ℕ, ◌+◌, ◌≤◌, ◌<◌, max, List, [], ◌∷◌, ◌++◌, length, sym, ap, ◌∙◌, arith, append_assoc, length-append, Ok, Err}
use Rattle.std.proofs.lemmas.Bool.Decides.{nat_tests}
use Rattle.kc_kdump.specs.declared.fault.KdumpFault.TheVariants.{K8}
use Rattle.kc_kdump.specs.declared.frame.Frame.{Frame}
use Rattle.kc_kdump.specs.declared.frame.Frame.TheVariants.{Dumped, Hole}
use Rattle.kc_kdump.specs.declared.run.PageRun.{PageRun}
use Rattle.kc_kdump.specs.Dump.{few}
use Rattle.kc_kdump.specs.Runs.{empty_at, end_of, page_count, reach, runs_from, shown}

page_count-append : (rs qs : List PageRun) → page_count (rs ++ qs) ≡ page_count rs + page_count qs
page_count-append [] qs = omega arith
page_count-append (r ∷ rs) qs = let rest = page_count-append rs qs in omega (arith, rest)

page_count-shown : (r : PageRun) → page_count (shown r) ≡ r.dumped
page_count-shown r = grind (arith, nat_tests)

-- a run that is put to the others
pub page_count-more : (rs qs : List PageRun) (r : PageRun) → qs ≡ rs ++ shown r → page_count qs ≡ page_count rs + r.dumped
page_count-more rs qs r is = ap page_count is ∙ page_count-append rs (shown r) ∙ ap (λ (n : ℕ). page_count rs + n) (page_count-shown r)

reach-append : (rs qs : List PageRun) → reach (rs ++ qs) ≡ max (reach rs) (reach qs)
reach-append [] qs = omega arith
reach-append (r ∷ rs) qs = let rest = reach-append rs qs in omega (arith, rest)

reach-shown : (r : PageRun) → reach (shown r) ≤ end_of r
reach-shown r = grind (arith, nat_tests)

pub reach-more : (rs qs : List PageRun) (r : PageRun) → qs ≡ rs ++ shown r → reach rs ≤ end_of r → reach qs ≤ end_of r
reach-more rs qs r is below = let all = ap reach is ∙ reach-append rs (shown r) in omega (arith, all, reach-shown r)

-- it is a list of one, unless it is empty
pub shown-one : (r : PageRun) → 0 < r.dumped + r.left → shown r ≡ r ∷ []
shown-one r some = grind (arith, nat_tests)

pub shown-none : (r : PageRun) → r.dumped + r.left ≡ 0 → shown r ≡ []
shown-none r none = grind (arith, nat_tests)

pub more_than : (rs : List PageRun) (r : PageRun) (most : ℕ) → most ≤ length rs → 0 < r.dumped + r.left → most < length (rs ++ shown r)
more_than rs r most full some = let one = ap (length {A = PageRun}) (shown-one r some) in omega (arith, length-append rs (shown r), one)

-- ---- a page frame more

pub dumped_more : (r : PageRun) (rest : List Frame) → r.left ≡ 0 → runs_from r (Dumped ∷ rest) ≡ runs_from (record r { dumped = r.dumped + 1 }) rest
dumped_more r rest none = grind (arith, nat_tests)

pub dumped_new : (rs : List PageRun) (r : PageRun) (rest : List Frame) → 0 < r.left
    → rs ++ runs_from r (Dumped ∷ rest) ≡ (rs ++ shown r) ++ runs_from (record { first = end_of r; dumped = 1; left = 0 }) rest
dumped_new rs r rest some =
    let one : shown r ≡ r ∷ [] = shown-one r (omega arith) in
    let next : List PageRun = runs_from (record { first = end_of r; dumped = 1; left = 0 }) rest in
    let new : runs_from r (Dumped ∷ rest) ≡ r ∷ next = grind (arith, nat_tests) in
    ap (λ (qs : List PageRun). rs ++ qs) new ∙ sym (append_assoc rs (r ∷ []) next) ∙ ap (λ (qs : List PageRun). (rs ++ qs) ++ next) (sym one)

pub hole_new : (rs : List PageRun) (r : PageRun) (rest : List Frame) → rs ++ runs_from r (Hole ∷ rest) ≡ (rs ++ shown r) ++ runs_from (empty_at (end_of r + 1)) rest
hole_new rs r rest = sym (append_assoc rs (shown r) (runs_from (empty_at (end_of r + 1)) rest))

pub more_still : (rs qs : List PageRun) (most : ℕ) → most < length rs → most < length (rs ++ qs)
more_still rs qs most more = omega (arith, length-append rs qs)

-- ---- how many there are

pub few_ok : (rs : List PageRun) → length rs ≤ 4194304 → few rs ≡ Ok rs
few_ok rs enough = grind (arith, nat_tests)

pub few_many : (rs : List PageRun) → 4194304 < length rs → few rs ≡ Err K8
few_many rs many = grind (arith, nat_tests)
