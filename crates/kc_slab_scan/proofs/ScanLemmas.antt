-- What is seen of the frames so far, and of the next ones.
use Rattle.std.proofs.Common.{◌≡◌, ℕ, zero, suc, ◌+◌, ◌-◌, ◌<◌, ◌≤◌, ◌∷◌, ◌++◌, [], List, drop, length, get_or, Option, Some, None, refl, sym, ap, ◌∙◌, add-one, arith}
use Rattle.std.specs.Prelude.{IfSome, Ok}
use Rattle.std.specs.List.{range_with_len}
use Rattle.kc_memory.specs.Image.{Image}
use Rattle.kc_found.specs.Walks.{WalksAs}
use Rattle.kc_slab_page.specs.declared.frames.FrameRun.{FrameRun}
use Rattle.kc_slab_page.specs.Frames.Frames.{frames_in, frames_of}
use Rattle.kc_slab_page.specs.declared.shape.PageShape.{PageShape}
use Rattle.kc_slab_page.specs.Caches.{Caches}
use Rattle.kc_slab_page.specs.Pages.{page_seen}
use Rattle.kc_slab_scan.specs.declared.totals.Scan.{Scan}
use Rattle.kc_slab_scan.specs.Scans.{scan_from, with_page}

from_next : (image : Image) (shape : PageShape) (caches : Caches) (s : Scan) (n : ℕ) (ns : List ℕ)
    → scan_from image shape caches s (n ∷ ns) ≡ scan_from image shape caches (with_page s (page_seen image shape caches n)) ns
unfolding scan_from
from_next image shape caches s n ns = refl

from_none : (image : Image) (shape : PageShape) (caches : Caches) (s : Scan) → scan_from image shape caches s [] ≡ s
unfolding scan_from
from_none image shape caches s = refl

from_more : (image : Image) (shape : PageShape) (caches : Caches) (s : Scan) (ns ms : List ℕ)
    → scan_from image shape caches s (ns ++ ms) ≡ scan_from image shape caches (scan_from image shape caches s ns) ms
unfolding scan_from
from_more image shape caches s [] ms = refl
from_more image shape caches s (n ∷ ns) ms = from_more image shape caches (with_page s (page_seen image shape caches n)) ns ms

-- the frames from a number on
abbrev pub rest_of : ℕ → ℕ → List ℕ
rest_of number end = range_with_len number (end - number)

rest_next : (number end : ℕ) → number < end → rest_of number end ≡ number ∷ rest_of (number + 1) end
rest_next number end more =
    let e : end - number ≡ suc (end - (number + 1)) = omega (arith, more) in
    rw e refl

rest_none : (number end : ℕ) → end ≤ number → rest_of number end ≡ []
rest_none number end none =
    let e : end - number ≡ 0 = omega (arith, none) in
    rw e refl

-- what was seen so far, with what is still to come, is all
abbrev pub Far : Option Image → PageShape → Caches → Scan → List ℕ → Scan → List ℕ → Type 0
Far image shape caches start all s left = IfSome image (λ i. scan_from i shape caches s left ≡ scan_from i shape caches start all)

pub frame_next : (image : Option Image) (shape : PageShape) (caches : Caches) (start : Scan) (all : List ℕ) (old new : Scan) (number end : ℕ) → number < end
    → WalksAs {A = Unit {0}} {B = Scan} (λ _. new) (λ i. Ok (with_page old (page_seen i shape caches number))) image (Ok tt)
    → Far image shape caches start all old (rest_of number end) → Far image shape caches start all new (rest_of (number + 1) end)
frame_next None shape caches start all old new number end more added far = tt
frame_next (Some i) shape caches start all old new number end more added far =
    let same : with_page old (page_seen i shape caches number) ≡ new = cc in
    ap (λ (s : Scan). scan_from i shape caches s (rest_of (number + 1) end)) (sym same)
    ∙ sym (from_next i shape caches old number (rest_of (number + 1) end))
    ∙ ap (scan_from i shape caches old) (sym (rest_next number end more)) ∙ far

pub frames_done : (image : Option Image) (shape : PageShape) (caches : Caches) (start : Scan) (all : List ℕ) (s : Scan) (number end : ℕ) → end ≤ number
    → Far image shape caches start all s (rest_of number end) → WalksAs {A = Unit {0}} {B = Scan} (λ _. s) (λ i. Ok (scan_from i shape caches start all)) image (Ok tt)
frames_done None shape caches start all s number end none far = tt
frames_done (Some i) shape caches start all s number end none far =
    ap (λ (t : Scan). Ok t) (sym far ∙ ap (scan_from i shape caches s) (rest_none number end none) ∙ from_none i shape caches s)

pub frames_begin : (image : Option Image) (shape : PageShape) (caches : Caches) (start : Scan) (all : List ℕ) → Far image shape caches start all start all
frames_begin None shape caches start all = tt
frames_begin (Some i) shape caches start all = refl

-- the same, run by run
drop_next : {X : Type 0} (xs : List X) (n : ℕ) (d : X) → n < length xs → drop n xs ≡ get_or xs n d ∷ drop (suc n) xs
drop_next [] n d lt = absurd (omega (arith, lt))
drop_next (y ∷ ys) zero d lt = refl
drop_next (y ∷ ys) (suc n) d lt = drop_next ys n d (omega (arith, lt))

dropped : {X : Type 0} (xs : List X) (n : ℕ) → length xs ≤ n → drop n xs ≡ []
dropped [] zero all = refl
dropped [] (suc n) all = refl
dropped (x ∷ xs) zero all = absurd (omega (arith, all))
dropped (x ∷ xs) (suc n) all = dropped xs n (omega (arith, all))

pub run_next : (image : Option Image) (shape : PageShape) (caches : Caches) (start : Scan) (all : List ℕ) (old new : Scan) (runs : List FrameRun) (n : ℕ) (d : FrameRun) → n < length runs
    → WalksAs {A = Unit {0}} {B = Scan} (λ _. new) (λ i. Ok (scan_from i shape caches old (frames_in (get_or runs n d)))) image (Ok tt)
    → Far image shape caches start all old (frames_of (drop n runs)) → Far image shape caches start all new (frames_of (drop (n + 1) runs))
run_next None shape caches start all old new runs n d more added far = tt
run_next (Some i) shape caches start all old new runs n d more added far =
    let same : scan_from i shape caches old (frames_in (get_or runs n d)) ≡ new = cc in
    ap (λ (k : ℕ). scan_from i shape caches new (frames_of (drop k runs))) (add-one n)
    ∙ ap (λ (s : Scan). scan_from i shape caches s (frames_of (drop (suc n) runs))) (sym same)
    ∙ sym (from_more i shape caches old (frames_in (get_or runs n d)) (frames_of (drop (suc n) runs)))
    ∙ ap (λ (rs : List FrameRun). scan_from i shape caches old (frames_of rs)) (sym (drop_next runs n d more)) ∙ far

pub runs_done : (image : Option Image) (shape : PageShape) (caches : Caches) (start : Scan) (all : List ℕ) (s : Scan) (runs : List FrameRun) (n : ℕ) → length runs ≤ n
    → Far image shape caches start all s (frames_of (drop n runs)) → WalksAs {A = Scan} {B = Scan} (λ t. t) (λ i. Ok (scan_from i shape caches start all)) image (Ok s)
runs_done None shape caches start all s runs n none far = tt
runs_done (Some i) shape caches start all s runs n none far =
    ap (λ (t : Scan). Ok t) (sym far ∙ ap (λ (rs : List FrameRun). scan_from i shape caches s (frames_of rs)) (dropped runs n none) ∙ from_none i shape caches s)
