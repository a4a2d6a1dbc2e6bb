-- The page frames of some bytes, byte by byte and block by block.
use Rattle.std.proofs.Common.{◌≡◌, ℕ, zero, suc, ◌+◌, ◌-◌, ◌*◌, ◌/◌, ◌%◌, ◌≤◌, ◌<◌, min, List, [], ◌∷◌, ◌++◌, length, get_or, take, drop, refl, sym, ap, ◌∙◌, arith, add-one, append_assoc, length-append}
use Rattle.std.proofs.lemmas.List.{drop-drop}
use Rattle.std.proofs.Math.Seq.{drop-cons, take-add}
use Rattle.kc_kdump.specs.declared.frame.Frame.{Frame}
use Rattle.kc_kdump.specs.Bytes.{part}
use Rattle.kc_kdump.specs.Frames.{all_frames, frame_of, frames_by}

-- ---- one byte of each bitmap

length-frames_by : (n m d : ℕ) → length (frames_by n m d) ≡ n
unfolding frames_by
length-frames_by zero m d = refl
length-frames_by (suc n) m d = let rest = length-frames_by n (m / 2) (d / 2) in omega (arith, rest)

pub frames_by-none : (n m d : ℕ) → n ≤ 0 → frames_by n m d ≡ []
unfolding frames_by
frames_by-none zero m d none = refl
frames_by-none (suc n) m d none = absurd (omega arith)

pub frames_by-more : (n m d : ℕ) → 0 < n → frames_by n m d ≡ frame_of (m % 2) (d % 2) ∷ frames_by (n - 1) (m / 2) (d / 2)
unfolding frames_by
frames_by-more zero m d some = absurd (omega arith)
frames_by-more (suc n) m d some = let less : suc n - 1 ≡ n = omega arith in rw less refl

take-frames_by : (n k m d : ℕ) → take n (frames_by k m d) ≡ frames_by (min n k) m d
unfolding frames_by
take-frames_by zero k m d = let none : min 0 k ≡ 0 = omega arith in rw none refl
take-frames_by (suc n) zero m d = let none : min (suc n) 0 ≡ 0 = omega arith in rw none refl
take-frames_by (suc n) (suc k) m d =
    let less : min (suc n) (suc k) ≡ suc (min n k) = omega arith in
    rw less (ap (λ (fs : List Frame). frame_of (m % 2) (d % 2) ∷ fs) (take-frames_by n k (m / 2) (d / 2)))

-- ---- lists

take-append : {X : Type 0} (n : ℕ) (xs ys : List X) → take n (xs ++ ys) ≡ take n xs ++ take (n - length xs) ys
take-append zero xs ys = let none : 0 - length xs ≡ 0 = omega arith in rw none refl
take-append (suc n) [] ys = let all : suc n - 0 ≡ suc n = omega arith in rw all refl
take-append {X} (suc n) (x ∷ xs) ys =
    let less : suc n - suc (length xs) ≡ n - length xs = omega arith in
    rw less (ap (λ (zs : List X). x ∷ zs) (take-append n xs ys))

-- ---- byte by byte

all_frames-more : (ms ds : List ℕ) (i : ℕ) → i < length ms → i < length ds
    → all_frames (drop i ms) (drop i ds) ≡ frames_by 8 (get_or ms i 0) (get_or ds i 0) ++ all_frames (drop (suc i) ms) (drop (suc i) ds)
unfolding all_frames
all_frames-more ms ds i in_ms in_ds = rw (drop-cons ms i 0 in_ms, drop-cons ds i 0 in_ds) refl

pub one_byte : (left i : ℕ) (ms ds : List ℕ) (more : List Frame) → i < length ms → length ms ≡ length ds
    → take left (all_frames (drop i ms) (drop i ds)) ++ more
    ≡ frames_by (min left 8) (get_or ms i 0) (get_or ds i 0) ++ (take (left - min left 8) (all_frames (drop (i + 1) ms) (drop (i + 1) ds)) ++ more)
one_byte left i ms ds more here same =
    let there : i < length ds = omega arith in
    let m = get_or ms i 0 in
    let d = get_or ds i 0 in
    let rest = all_frames (drop (suc i) ms) (drop (suc i) ds) in
    let after : left - length (frames_by 8 m d) ≡ left - min left 8 = omega (arith, length-frames_by 8 m d) in
    let split : take left (frames_by 8 m d ++ rest) ≡ frames_by (min left 8) m d ++ take (left - min left 8) rest =
    take-append left (frames_by 8 m d) rest
    ∙ ap (λ (n : ℕ). take left (frames_by 8 m d) ++ take n rest) after
    ∙ ap (λ (fs : List Frame). fs ++ take (left - min left 8) rest) (take-frames_by left 8 m d) in
    ap (λ (fs : List Frame). take left fs ++ more) (all_frames-more ms ds i here there)
    ∙ ap (λ (fs : List Frame). fs ++ more) split
    ∙ append_assoc (frames_by (min left 8) m d) (take (left - min left 8) rest) more
    ∙ ap (λ (k : ℕ). frames_by (min left 8) m d ++ (take (left - min left 8) (all_frames (drop k ms) (drop k ds)) ++ more)) (sym (add-one i))

-- no byte is left
drop_past : (xs : List ℕ) (i : ℕ) → length xs ≤ i → drop i xs ≡ []
drop_past [] zero past = refl
drop_past [] (suc i) past = refl
drop_past (x ∷ xs) zero past = absurd (omega arith)
drop_past (x ∷ xs) (suc i) past = drop_past xs i (omega arith)

no_frame : (n : ℕ) (ds : List ℕ) (more : List Frame) → take n (all_frames [] ds) ++ more ≡ more
unfolding all_frames
no_frame zero ds more = refl
no_frame (suc n) ds more = refl

pub no_byte : (left i : ℕ) (ms ds : List ℕ) (more : List Frame) → length ms ≤ i → take left (all_frames (drop i ms) (drop i ds)) ++ more ≡ more
no_byte left i ms ds more past = let none : drop i ms ≡ [] = drop_past ms i past in rw none (no_frame left (drop i ds) more)

-- ---- block by block

all_frames-append : (ms ns ds es : List ℕ) → length ms ≡ length ds → all_frames (ms ++ ns) (ds ++ es) ≡ all_frames ms ds ++ all_frames ns es
unfolding all_frames
all_frames-append [] ns [] es same = refl
all_frames-append [] ns (d ∷ ds) es same = absurd (omega arith)
all_frames-append (m ∷ ms) ns [] es same = absurd (omega arith)
all_frames-append (m ∷ ms) ns (d ∷ ds) es same =
    ap (λ (fs : List Frame). frames_by 8 m d ++ fs) (all_frames-append ms ns ds es (omega arith))
    ∙ sym (append_assoc (frames_by 8 m d) (all_frames ms ds) (all_frames ns es))

length-all_frames : (ms ds : List ℕ) → length ms ≡ length ds → length (all_frames ms ds) ≡ 8 * length ms
unfolding all_frames
length-all_frames [] ds same = refl
length-all_frames (m ∷ ms) [] same = absurd (omega arith)
length-all_frames (m ∷ ms) (d ∷ ds) same =
    let rest = length-all_frames ms ds (omega arith) in
    omega (arith, rest, length-append (frames_by 8 m d) (all_frames ms ds), length-frames_by 8 m d)

part_split : (at n : ℕ) (bytes : List ℕ) → 4096 ≤ n → part at n bytes ≡ take 4096 (drop at bytes) ++ part (at + 4096) (n - 4096) bytes
part_split at n bytes enough =
    let whole : n ≡ 4096 + (n - 4096) = omega arith in
    ap (λ (k : ℕ). take k (drop at bytes)) whole
    ∙ take-add 4096 (n - 4096) (drop at bytes)
    ∙ ap (λ (xs : List ℕ). take 4096 (drop at bytes) ++ take (n - 4096) xs) (drop-drop 4096 at bytes)

pub one_block : (left a b n : ℕ) (bytes memory dumped : List ℕ) → memory ≡ take 4096 (drop a bytes) → dumped ≡ take 4096 (drop b bytes) → length memory ≡ 4096 → length dumped ≡ 4096 → 4096 ≤ n
    → take left (all_frames (part a n bytes) (part b n bytes))
    ≡ take left (all_frames memory dumped) ++ take (left - 32768) (all_frames (part (a + 4096) (n - 4096) bytes) (part (b + 4096) (n - 4096) bytes))
one_block left a b n bytes memory dumped first second long_first long_second enough =
    let ms = part (a + 4096) (n - 4096) bytes in
    let ds = part (b + 4096) (n - 4096) bytes in
    let first_part : part a n bytes ≡ memory ++ ms = part_split a n bytes enough ∙ ap (λ (xs : List ℕ). xs ++ ms) (sym first) in
    let second_part : part b n bytes ≡ dumped ++ ds = part_split b n bytes enough ∙ ap (λ (xs : List ℕ). xs ++ ds) (sym second) in
    let same : length memory ≡ length dumped = omega arith in
    let many : left - length (all_frames memory dumped) ≡ left - 32768 = omega (arith, length-all_frames memory dumped same) in
    ap (λ (xs : List ℕ). take left (all_frames xs (part b n bytes))) first_part
    ∙ ap (λ (xs : List ℕ). take left (all_frames (memory ++ ms) xs)) second_part
    ∙ ap (λ (fs : List Frame). take left fs) (all_frames-append memory ms dumped ds same)
    ∙ take-append left (all_frames memory dumped) (all_frames ms ds)
    ∙ ap (λ (k : ℕ). take left (all_frames memory dumped) ++ take k (all_frames ms ds)) many
