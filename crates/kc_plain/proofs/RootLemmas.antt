-- The number of a page frame's page, run by run.
use Rattle.std.proofs.Common.{◌≡◌, ℕ, suc, ◌+◌, ◌-◌, ◌≤◌, ◌<◌, true, false, List, [], ◌∷◌, length, get_or, drop, Some, None, refl, sym, ap, ◌∙◌, subst, arith, add-one}
use Rattle.std.proofs.Math.Seq.{drop-cons}
use Rattle.std.proofs.lemmas.Bool.{cond-true, cond-false}
use Rattle.std.proofs.lemmas.Bool.Decides.{nat_tests}
use Rattle.kc_kdump.specs.declared.run.PageRun.{PageRun}
use Rattle.kc_plain.specs.Root.{number_from}
use Rattle.kc_plain.proofs.HeadLemmas.{drop_past}

in_run : (frame before : ℕ) (run : PageRun) (runs : List PageRun) → run.first ≤ frame → frame - run.first < run.dumped → number_from frame before (run ∷ runs) ≡ Some (before + (frame - run.first))
unfolding number_from
in_run frame before run runs from below = grind (arith, nat_tests)

not_in_run : (frame before : ℕ) (run : PageRun) (runs : List PageRun) → (run.first ≤ frame → run.dumped ≤ frame - run.first) → number_from frame before (run ∷ runs) ≡ number_from frame (before + run.dumped) runs
unfolding number_from
not_in_run frame before run runs out = grind (arith, nat_tests)

pub found_here : (frame before i : ℕ) (runs : List PageRun) (d : PageRun) → i < length runs → (get_or runs i d).first ≤ frame → frame - (get_or runs i d).first < (get_or runs i d).dumped
    → number_from frame before (drop i runs) ≡ number_from frame 0 runs → number_from frame 0 runs ≡ Some (before + (frame - (get_or runs i d).first))
found_here frame before i runs d here from below whole =
    sym whole ∙ ap (λ (rs : List PageRun). number_from frame before rs) (drop-cons runs i d here) ∙ in_run frame before (get_or runs i d) _ from below

pub found_later : (frame before i : ℕ) (runs : List PageRun) (d : PageRun) → i < length runs → ((get_or runs i d).first ≤ frame → (get_or runs i d).dumped ≤ frame - (get_or runs i d).first)
    → number_from frame before (drop i runs) ≡ number_from frame 0 runs → number_from frame (before + (get_or runs i d).dumped) (drop (i + 1) runs) ≡ number_from frame 0 runs
found_later frame before i runs d here out whole =
    ap (λ (k : ℕ). number_from frame (before + (get_or runs i d).dumped) (drop k runs)) (add-one i)
    ∙ sym (not_in_run frame before (get_or runs i d) (drop (suc i) runs) out)
    ∙ ap (λ (rs : List PageRun). number_from frame before rs) (sym (drop-cons runs i d here))
    ∙ whole

none_left : (frame before : ℕ) → number_from frame before [] ≡ None
unfolding number_from
none_left frame before = refl

pub found_never : (frame before i : ℕ) (runs : List PageRun) → length runs ≤ i
    → number_from frame before (drop i runs) ≡ number_from frame 0 runs → number_from frame 0 runs ≡ None
found_never frame before i runs past whole = sym whole ∙ ap (λ (rs : List PageRun). number_from frame before rs) (drop_past runs i past) ∙ none_left frame before
