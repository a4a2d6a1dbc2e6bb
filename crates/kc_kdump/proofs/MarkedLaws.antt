-- The pages of the runs are those that the second bitmap marks.
use Rattle.std.proofs.Common.{◌≡◌, ℕ, zero, suc, ◌+◌, ◌-◌, ◌*◌, ◌/◌, ◌%◌, ◌^◌, ◌==◌, ◌≤◌, min, Bool, true, false, List, [], ◌∷◌, ◌++◌, length, get_or, slice_index, take, drop, if◌then◌else◌, refl, sym, ap, ◌∙◌, arith, add-one, append_assoc, append-nil, length-drop}
use Rattle.std.proofs.lemmas.List.{length-take-le}
use Rattle.std.proofs.lemmas.Nat.{shr-shr}
use Rattle.kc_kdump.specs.declared.frame.Frame.{Frame}
use Rattle.kc_kdump.specs.declared.frame.Frame.TheVariants.{Dumped, LeftOut, Hole}
use Rattle.kc_kdump.specs.declared.layout.Layout.{Layout}
use Rattle.kc_kdump.specs.declared.run.PageRun.{PageRun}
use Rattle.kc_kdump.specs.Bytes.{part}
use Rattle.kc_kdump.specs.Frames.{all_frames, frame_of, frames_by, frames_of}
use Rattle.kc_kdump.specs.Header.{table_in}
use Rattle.kc_kdump.specs.Laws.{bit_of, frames_in, marked, row, second_bitmap}
use Rattle.kc_kdump.specs.Runs.{empty_at, end_of, runs_from, runs_of, shown}
use Rattle.kc_kdump.proofs.FrameLemmas.{one_byte}
use Rattle.kc_kdump.proofs.RunLemmas.{dumped_more, dumped_new, shown-none, shown-one}

-- the page frames in the dump, of a list from one on
dumped_from : ℕ → List Frame → List ℕ
dumped_from at [] = []
dumped_from at (Dumped ∷ fs) = at ∷ dumped_from (at + 1) fs
dumped_from at (LeftOut ∷ fs) = dumped_from (at + 1) fs
dumped_from at (Hole ∷ fs) = dumped_from (at + 1) fs

-- ---- the runs have them

row-snoc : (pfn n : ℕ) → row pfn (suc n) ≡ row pfn n ++ (pfn + n) ∷ []
unfolding row
row-snoc pfn zero = let same : pfn ≡ pfn + 0 = omega arith in ap (λ (k : ℕ). k ∷ []) same
row-snoc pfn (suc n) =
    let next : pfn + 1 + n ≡ pfn + suc n = omega arith in
    ap (λ (xs : List ℕ). pfn ∷ xs) (row-snoc (pfn + 1) n ∙ ap (λ (k : ℕ). row (pfn + 1) n ++ k ∷ []) next)

row-none : (pfn n : ℕ) → n ≡ 0 → row pfn n ≡ []
unfolding row
row-none pfn zero none = refl
row-none pfn (suc n) none = absurd (omega (arith, none))

row-one : (pfn : ℕ) → row pfn 1 ≡ pfn ∷ []
unfolding row
row-one pfn = refl

frames_in-append : (rs qs : List PageRun) → frames_in (rs ++ qs) ≡ frames_in rs ++ frames_in qs
frames_in-append [] qs = refl
frames_in-append (r ∷ rs) qs =
    ap (λ (xs : List ℕ). row r.first r.dumped ++ xs) (frames_in-append rs qs) ∙ sym (append_assoc (row r.first r.dumped) (frames_in rs) (frames_in qs))

shown_by : (run : PageRun) (n : ℕ) → run.dumped + run.left ≡ n → frames_in (shown run) ≡ row run.first run.dumped
shown_by run zero none = ap frames_in (shown-none run none) ∙ sym (row-none run.first run.dumped (omega (arith, none)))
shown_by run (suc n) some = ap frames_in (shown-one run (omega (arith, some))) ∙ append-nil (row run.first run.dumped)

in_shown : (run : PageRun) → frames_in (shown run) ≡ row run.first run.dumped
in_shown run = shown_by run (run.dumped + run.left) refl

-- what is said of a run that was begun and of the page frames after it
AreIn : List Frame → PageRun → Type 0
AreIn fs run = frames_in (runs_from run fs) ≡ row run.first run.dumped ++ dumped_from (end_of run) fs

dumped_in : (run : PageRun) (fs : List Frame) (l : ℕ) → run.left ≡ l → ((r : PageRun) → AreIn fs r) → AreIn (Dumped ∷ fs) run
unfolding AreIn dumped_from
dumped_in run fs zero none rest =
    let more = record run { dumped = run.dumped + 1 } in
    let end : end_of run ≡ run.first + run.dumped = omega (arith, none) in
    let next : end_of more ≡ end_of run + 1 = omega arith in
    ap frames_in (dumped_more run fs none)
    ∙ rest more
    ∙ ap (λ (xs : List ℕ). xs ++ dumped_from (end_of more) fs) (ap (λ (k : ℕ). row run.first k) (add-one run.dumped) ∙ row-snoc run.first run.dumped)
    ∙ append_assoc (row run.first run.dumped) ((run.first + run.dumped) ∷ []) (dumped_from (end_of more) fs)
    ∙ ap (λ (k : ℕ). row run.first run.dumped ++ k ∷ dumped_from (end_of more) fs) (sym end)
    ∙ ap (λ (k : ℕ). row run.first run.dumped ++ end_of run ∷ dumped_from k fs) next
dumped_in run fs (suc l) some rest =
    let new : PageRun = record { first = end_of run; dumped = 1; left = 0 } in
    let next : end_of new ≡ end_of run + 1 = omega arith in
    let none : List PageRun = [] in
    ap frames_in (dumped_new none run fs (omega (arith, some)))
    ∙ frames_in-append (shown run) (runs_from new fs)
    ∙ ap (λ (xs : List ℕ). xs ++ frames_in (runs_from new fs)) (in_shown run)
    ∙ ap (λ (xs : List ℕ). row run.first run.dumped ++ xs) (rest new)
    ∙ ap (λ (xs : List ℕ). row run.first run.dumped ++ (xs ++ dumped_from (end_of new) fs)) (row-one (end_of run))
    ∙ ap (λ (k : ℕ). row run.first run.dumped ++ end_of run ∷ dumped_from k fs) next

are_in : (fs : List Frame) (run : PageRun) → AreIn fs run
unfolding AreIn dumped_from
are_in [] run = in_shown run ∙ sym (append-nil (row run.first run.dumped))
are_in (Dumped ∷ fs) run = dumped_in run fs run.left refl (λ r. are_in fs r)
are_in (LeftOut ∷ fs) run =
    let more = record run { left = run.left + 1 } in
    let next : end_of more ≡ end_of run + 1 = omega arith in
    are_in fs more ∙ ap (λ (k : ℕ). row run.first run.dumped ++ dumped_from k fs) next
are_in (Hole ∷ fs) run =
    let new : PageRun = empty_at (end_of run + 1) in
    let next : end_of new ≡ end_of run + 1 = omega arith in
    frames_in-append (shown run) (runs_from new fs)
    ∙ ap (λ (xs : List ℕ). xs ++ frames_in (runs_from new fs)) (in_shown run)
    ∙ ap (λ (xs : List ℕ). row run.first run.dumped ++ xs) (are_in fs new)
    ∙ ap (λ (xs : List ℕ). row run.first run.dumped ++ (xs ++ dumped_from (end_of new) fs)) (row-none (end_of run + 1) 0 refl)
    ∙ ap (λ (k : ℕ). row run.first run.dumped ++ dumped_from k fs) next

in_runs : (fs : List Frame) → frames_in (runs_of fs) ≡ dumped_from 0 fs
unfolding AreIn
in_runs fs = are_in fs (empty_at 0) ∙ ap (λ (xs : List ℕ). xs ++ dumped_from 0 fs) (row-none 0 0 refl)

-- ---- and they are marked

frame_by : (b c : Bool) (at : ℕ) (fs : List Frame) → dumped_from at ((if b then Dumped else (if c then LeftOut else Hole)) ∷ fs) ≡ (if b then at ∷ dumped_from (at + 1) fs else dumped_from (at + 1) fs)
unfolding dumped_from
frame_by true c at fs = refl
frame_by false true at fs = refl
frame_by false false at fs = refl

one_split : (b : Bool) (pfn : ℕ) (all first rest : List ℕ) → all ≡ first ++ rest → (if b then pfn ∷ all else all) ≡ (if b then pfn ∷ first else first) ++ rest
one_split true pfn all first rest is = ap (λ (xs : List ℕ). pfn ∷ xs) is
one_split false pfn all first rest is = is

marked-split : (bitmap : List ℕ) (pfn n m : ℕ) → marked bitmap pfn (n + m) ≡ marked bitmap pfn n ++ marked bitmap (pfn + n) m
unfolding marked
marked-split bitmap pfn zero m =
    let none : 0 + m ≡ m = omega arith in
    let same : pfn ≡ pfn + 0 = omega arith in
    ap (λ (k : ℕ). marked bitmap pfn k) none ∙ ap (λ (p : ℕ). marked bitmap p m) same
marked-split bitmap pfn (suc n) m =
    let more : suc n + m ≡ suc (n + m) = omega arith in
    let next : pfn + 1 + n ≡ pfn + suc n = omega arith in
    ap (λ (k : ℕ). marked bitmap pfn k) more
    ∙ one_split (bit_of bitmap pfn == 1) pfn (marked bitmap (pfn + 1) (n + m)) (marked bitmap (pfn + 1) n) (marked bitmap (pfn + suc n) m)
    (marked-split bitmap (pfn + 1) n m ∙ ap (λ (k : ℕ). marked bitmap (pfn + 1) n ++ marked bitmap k m) next)

-- the frames of a byte's bits from one on
byte_marked : (k j q m d : ℕ) (ds : List ℕ) (fs : List Frame) → slice_index ds q ≡ d → j + k ≤ 8
    → dumped_from (8 * q + j) (frames_by k (m / 2 ^ j) (d / 2 ^ j) ++ fs) ≡ marked ds (8 * q + j) k ++ dumped_from (8 * q + j + k) fs
unfolding frames_by marked
byte_marked zero j q m d ds fs is few = let same : 8 * q + j ≡ 8 * q + j + 0 = omega arith in ap (λ (n : ℕ). dumped_from n fs) same
byte_marked (suc k) j q m d ds fs is few =
    let at = 8 * q + j in
    let here : at / 8 ≡ q = omega (arith, few) in
    let bit : at % 8 ≡ j = omega (arith, few) in
    let own : bit_of ds at ≡ d / 2 ^ j % 2 = ap (λ (n : ℕ). slice_index ds n / 2 ^ (at % 8) % 2) here ∙ ap (λ (n : ℕ). slice_index ds q / 2 ^ n % 2) bit ∙ ap (λ (n : ℕ). n / 2 ^ j % 2) is in
    let rest = frames_by k (m / 2 ^ (j + 1)) (d / 2 ^ (j + 1)) ++ fs in
    let halves : frames_by k (m / 2 ^ j / 2) (d / 2 ^ j / 2) ++ fs ≡ rest =
    ap (λ (n : ℕ). frames_by k n (d / 2 ^ j / 2) ++ fs) (shr-shr m j 1) ∙ ap (λ (n : ℕ). frames_by k (m / 2 ^ (j + 1)) n ++ fs) (shr-shr d j 1) in
    let next : 8 * q + (j + 1) ≡ at + 1 = omega arith in
    let end : 8 * q + (j + 1) + k ≡ at + suc k = omega arith in
    let ih : dumped_from (at + 1) rest ≡ marked ds (at + 1) k ++ dumped_from (at + suc k) fs =
    ap (λ (n : ℕ). dumped_from n rest) (sym next)
    ∙ byte_marked k (j + 1) q m d ds fs is (omega (arith, few))
    ∙ ap (λ (n : ℕ). marked ds n k ++ dumped_from (8 * q + (j + 1) + k) fs) next
    ∙ ap (λ (n : ℕ). marked ds (at + 1) k ++ dumped_from n fs) end in
    ap (λ (gs : List Frame). dumped_from at (frame_of (m / 2 ^ j % 2) (d / 2 ^ j % 2) ∷ gs)) halves
    ∙ frame_by (d / 2 ^ j % 2 == 1) (m / 2 ^ j % 2 == 1) at rest
    ∙ ap (λ (n : ℕ). if n == 1 then at ∷ dumped_from (at + 1) rest else dumped_from (at + 1) rest) (sym own)
    ∙ one_split (bit_of ds at == 1) at (dumped_from (at + 1) rest) (marked ds (at + 1) k) (dumped_from (at + suc k) fs) ih

-- those after a byte
after_byte : (left i k r n : ℕ) (ds : List ℕ) (fs : List Frame) → k ≡ min left 8 → left - k ≡ r → left ≤ 8 * suc n
    → ((l : ℕ) → l ≤ 8 * n → dumped_from (8 * (i + 1)) (take l fs) ≡ marked ds (8 * (i + 1)) l)
    → dumped_from (8 * i + k) (take (left - k) fs) ≡ marked ds (8 * i + k) (left - k)
unfolding marked dumped_from
after_byte left i k zero n ds fs is none few rest =
    ap (λ (p : ℕ). dumped_from (8 * i + k) (take p fs)) none ∙ ap (λ (p : ℕ). marked ds (8 * i + k) p) (sym none)
after_byte left i k (suc r) n ds fs is some few rest =
    let eight : k ≡ 8 = omega (arith, is, some) in
    let next : 8 * i + k ≡ 8 * (i + 1) = omega (arith, eight) in
    ap (λ (p : ℕ). dumped_from p (take (left - k) fs)) next
    ∙ rest (left - k) (omega (arith, eight, few))
    ∙ ap (λ (p : ℕ). marked ds p (left - k)) (sym next)

by_one : (k m d : ℕ) → frames_by k m d ≡ frames_by k (m / 2 ^ 0) (d / 2 ^ 0)
by_one k m d = ap (λ (n : ℕ). frames_by k n d) (one m) ∙ ap (λ (n : ℕ). frames_by k (m / 2 ^ 0) n) (one d)
  where
    one : (n : ℕ) → n ≡ n / 2 ^ 0
    one n = omega arith

-- those of so many bytes
bytes_marked : (n left i : ℕ) (ms ds : List ℕ) → length ms ≡ length ds → i + n ≡ length ms → left ≤ 8 * n
    → dumped_from (8 * i) (take left (all_frames (drop i ms) (drop i ds))) ≡ marked ds (8 * i) left
unfolding marked dumped_from
bytes_marked zero left i ms ds same end few =
    let none : left ≡ 0 = omega (arith, few) in
    ap (λ (k : ℕ). dumped_from (8 * i) (take k (all_frames (drop i ms) (drop i ds)))) none ∙ ap (λ (k : ℕ). marked ds (8 * i) k) (sym none)
bytes_marked (suc n) left i ms ds same end few =
    let m = get_or ms i 0 in
    let d = get_or ds i 0 in
    let k = min left 8 in
    let more = all_frames (drop (i + 1) ms) (drop (i + 1) ds) in
    let rest = take (left - k) more in
    let none : List Frame = [] in
    let place : 8 * i + 0 ≡ 8 * i = omega arith in
    let whole : k + (left - k) ≡ left = omega arith in
    let split : take left (all_frames (drop i ms) (drop i ds)) ≡ frames_by k m d ++ rest =
    sym (append-nil (take left (all_frames (drop i ms) (drop i ds))))
    ∙ one_byte left i ms ds none (omega (arith, end)) same
    ∙ ap (λ (fs : List Frame). frames_by k m d ++ fs) (append-nil rest) in
    ap (λ (fs : List Frame). dumped_from (8 * i) fs) split
    ∙ ap (λ (p : ℕ). dumped_from p (frames_by k m d ++ rest)) (sym place)
    ∙ ap (λ (fs : List Frame). dumped_from (8 * i + 0) (fs ++ rest)) (by_one k m d)
    ∙ byte_marked k 0 i m d ds rest refl (omega arith)
    ∙ ap (λ (p : ℕ). marked ds p k ++ dumped_from (p + k) rest) place
    ∙ ap (λ (xs : List ℕ). marked ds (8 * i) k ++ xs)
    (after_byte left i k (left - k) n ds more refl refl few (λ l fits. bytes_marked n l (i + 1) ms ds same (omega (arith, end)) fits))
    ∙ sym (marked-split ds (8 * i) k (left - k))
    ∙ ap (λ (p : ℕ). marked ds (8 * i) p) whole

part_long : (at n : ℕ) (bytes : List ℕ) → at + n ≤ length bytes → length (part at n bytes) ≡ n
part_long at n bytes inside = length-take-le n (drop at bytes) (omega (arith, inside, length-drop at bytes))

pub pages_are_marked : (layout : Layout) (bytes : List ℕ) → layout.frames ≤ 8 * layout.half → table_in layout ≤ length bytes
    → frames_in (runs_of (frames_of layout bytes)) ≡ marked (second_bitmap layout bytes) 0 layout.frames
pages_are_marked layout bytes few inside =
    let ms = part layout.bitmaps layout.half bytes in
    let ds = second_bitmap layout bytes in
    let first : length ms ≡ layout.half = part_long layout.bitmaps layout.half bytes (omega (arith, inside)) in
    let second : length ds ≡ layout.half = part_long (layout.bitmaps + layout.half) layout.half bytes (omega (arith, inside)) in
    in_runs (frames_of layout bytes) ∙ bytes_marked layout.half layout.frames 0 ms ds (first ∙ sym second) (omega (arith, first)) few
