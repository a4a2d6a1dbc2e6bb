-- The walk over the page frames: what the page frames that are left make of it, the whole made.
use Rattle.std.proofs.Common.{◌≡◌, ℕ, ◌+◌, ◌-◌, ◌/◌, ◌%◌, ◌≤◌, ◌<◌, min, List, ◌∷◌, ◌++◌, length, get_or, take, drop, Option, Some, None, IfSome, Err, sym, ap, ◌∙◌, subst, arith}
use Rattle.kc_outside.specs.Files.{HasPart}
use Rattle.kc_kdump.specs.declared.fault.KdumpStop.{KdumpStop}
use Rattle.kc_kdump.specs.declared.fault.KdumpStop.TheVariants.{Fault, ReadFault, NoMemory}
use Rattle.kc_kdump.specs.declared.frame.Frame.{Frame}
use Rattle.kc_kdump.specs.declared.layout.Layout.{Layout}
use Rattle.kc_kdump.specs.declared.run.PageRun.{PageRun}
use Rattle.kc_kdump.specs.declared.walk.Walk.{Walk}
use Rattle.kc_kdump.specs.Answers.{IfTooMany, OnTooMany}
use Rattle.kc_kdump.specs.Bytes.{part}
use Rattle.kc_kdump.specs.Frames.{all_frames, frame_of, frames_by, frames_of}
use Rattle.kc_kdump.specs.Runs.{runs_of}
use Rattle.kc_kdump.specs.Walk.{runs_after}
use Rattle.kc_kdump.proofs.FrameLemmas.{frames_by-more, frames_by-none, no_byte, one_block, one_byte}

-- ---- errors

pub many_map : (X Y : Type 0) (e : KdumpStop) (P Q : Type 0) → (P → Q) → IfTooMany {X = X} (Err e) P → IfTooMany {X = Y} (Err e) Q
many_map X Y (Fault fault) P Q f is = (is.0, f is.1)
many_map X Y ReadFault P Q f is = is
many_map X Y NoMemory P Q f is = tt

pub many_on : (X Y : Type 0) (e : KdumpStop) (P Q : Type 0) → (P → Q) → IfTooMany {X = X} (Err e) P → OnTooMany {X = Y} (Err e) Q
many_on X Y (Fault fault) P Q f is = (is.0, f is.1)
many_on X Y ReadFault P Q f is = tt
many_on X Y NoMemory P Q f is = tt

-- ---- bit by bit

pub bits_more : (new now : Walk) (frame : Frame) (n m d : ℕ) (all : List Frame → List PageRun) → 0 < n → frame ≡ frame_of (m % 2) (d % 2)
    → ((rest : List Frame) → runs_after new rest ≡ runs_after now (frame ∷ rest))
    → ((rest : List Frame) → runs_after now (frames_by n m d ++ rest) ≡ all rest)
    → (rest : List Frame) → runs_after new (frames_by (n - 1) (m / 2) (d / 2) ++ rest) ≡ all rest
bits_more new now frame n m d all some is step before rest =
    let more = frames_by (n - 1) (m / 2) (d / 2) in
    step (more ++ rest)
    ∙ ap (λ (f : Frame). runs_after now (f ∷ (more ++ rest))) is
    ∙ ap (λ (fs : List Frame). runs_after now (fs ++ rest)) (sym (frames_by-more n m d some))
    ∙ before rest

pub bits_many : (now : Walk) (frame : Frame) (n m d : ℕ) (all : List Frame → List PageRun) → 0 < n → frame ≡ frame_of (m % 2) (d % 2)
    → ((rest : List Frame) → runs_after now (frames_by n m d ++ rest) ≡ all rest)
    → ((rest : List Frame) → 4194304 < length (runs_after now (frame ∷ rest)))
    → (rest : List Frame) → 4194304 < length (all rest)
bits_many now frame n m d all some is before many rest =
    let more = frames_by (n - 1) (m / 2) (d / 2) in
    let same : runs_after now (frame ∷ (more ++ rest)) ≡ all rest =
    ap (λ (f : Frame). runs_after now (f ∷ (more ++ rest))) is
    ∙ ap (λ (fs : List Frame). runs_after now (fs ++ rest)) (sym (frames_by-more n m d some))
    ∙ before rest in
    subst (λ (rs : List PageRun). 4194304 < length rs) same (many (more ++ rest))

pub bits_none : (now : Walk) (n m d : ℕ) (all : List Frame → List PageRun) → n ≤ 0
    → ((rest : List Frame) → runs_after now (frames_by n m d ++ rest) ≡ all rest)
    → (rest : List Frame) → runs_after now rest ≡ all rest
bits_none now n m d all none before rest = sym (ap (λ (fs : List Frame). runs_after now (fs ++ rest)) (frames_by-none n m d none)) ∙ before rest

-- ---- byte by byte

pub bytes_more : (new now : Walk) (bits left i : ℕ) (ms ds : List ℕ) (all : List Frame → List PageRun) → bits ≡ min left 8 → i < length ms → length ms ≡ length ds
    → ((rest : List Frame) → runs_after new rest ≡ runs_after now (frames_by bits (get_or ms i 0) (get_or ds i 0) ++ rest))
    → ((rest : List Frame) → runs_after now (take left (all_frames (drop i ms) (drop i ds)) ++ rest) ≡ all rest)
    → (rest : List Frame) → runs_after new (take (left - bits) (all_frames (drop (i + 1) ms) (drop (i + 1) ds)) ++ rest) ≡ all rest
bytes_more new now bits left i ms ds all is here same step before rest =
    let more = λ (n : ℕ). take (left - n) (all_frames (drop (i + 1) ms) (drop (i + 1) ds)) ++ rest in
    step (more bits)
    ∙ ap (λ (n : ℕ). runs_after now (frames_by n (get_or ms i 0) (get_or ds i 0) ++ more n)) is
    ∙ ap (λ (fs : List Frame). runs_after now fs) (sym (one_byte left i ms ds rest here same))
    ∙ before rest

pub bytes_many : (now : Walk) (bits left i : ℕ) (ms ds : List ℕ) (all : List Frame → List PageRun) → bits ≡ min left 8 → i < length ms → length ms ≡ length ds
    → ((rest : List Frame) → runs_after now (take left (all_frames (drop i ms) (drop i ds)) ++ rest) ≡ all rest)
    → ((rest : List Frame) → 4194304 < length (runs_after now (frames_by bits (get_or ms i 0) (get_or ds i 0) ++ rest)))
    → (rest : List Frame) → 4194304 < length (all rest)
bytes_many now bits left i ms ds all is here same before many rest =
    let more = λ (n : ℕ). take (left - n) (all_frames (drop (i + 1) ms) (drop (i + 1) ds)) ++ rest in
    let whole : runs_after now (frames_by bits (get_or ms i 0) (get_or ds i 0) ++ more bits) ≡ all rest =
    ap (λ (n : ℕ). runs_after now (frames_by n (get_or ms i 0) (get_or ds i 0) ++ more n)) is
    ∙ ap (λ (fs : List Frame). runs_after now fs) (sym (one_byte left i ms ds rest here same))
    ∙ before rest in
    subst (λ (rs : List PageRun). 4194304 < length rs) whole (many (more bits))

pub bytes_none : (now : Walk) (left i : ℕ) (ms ds : List ℕ) (all : List Frame → List PageRun) → length ms ≤ i
    → ((rest : List Frame) → runs_after now (take left (all_frames (drop i ms) (drop i ds)) ++ rest) ≡ all rest)
    → (rest : List Frame) → runs_after now rest ≡ all rest
bytes_none now left i ms ds all past before rest = sym (ap (λ (fs : List Frame). runs_after now fs) (no_byte left i ms ds rest past)) ∙ before rest

-- ---- block by block

-- what is left of the bitmaps, from a byte of each on
abbrev pub left_frames : Layout → ℕ → ℕ → List ℕ → List Frame
left_frames layout at left bytes = take left (all_frames (part (layout.bitmaps + at) (layout.half - at) bytes) (part (layout.bitmaps + layout.half + at) (layout.half - at) bytes))

pub block_whole : (layout : Layout) (at left : ℕ) (bytes memory dumped : List ℕ) → memory ≡ take 4096 (drop (layout.bitmaps + at) bytes) → dumped ≡ take 4096 (drop (layout.bitmaps + layout.half + at) bytes)
    → length memory ≡ 4096 → length dumped ≡ 4096 → 4096 ≤ layout.half - at
    → left_frames layout at left bytes ≡ take left (all_frames memory dumped) ++ left_frames layout (at + 4096) (left - 32768) bytes
block_whole layout at left bytes memory dumped first second long_first long_second enough =
    let a = layout.bitmaps + at in
    let b = layout.bitmaps + layout.half + at in
    let n = layout.half - at in
    let a_next : a + 4096 ≡ layout.bitmaps + (at + 4096) = omega arith in
    let b_next : b + 4096 ≡ layout.bitmaps + layout.half + (at + 4096) = omega arith in
    let n_next : n - 4096 ≡ layout.half - (at + 4096) = omega arith in
    one_block left a b n bytes memory dumped first second long_first long_second enough
    ∙ ap (λ (k : ℕ). take left (all_frames memory dumped) ++ take (left - 32768) (all_frames (part k (n - 4096) bytes) (part (b + 4096) (n - 4096) bytes))) a_next
    ∙ ap (λ (k : ℕ). take left (all_frames memory dumped) ++ take (left - 32768) (all_frames (part (layout.bitmaps + (at + 4096)) (n - 4096) bytes) (part k (n - 4096) bytes))) b_next
    ∙ ap (λ (k : ℕ). take left (all_frames memory dumped) ++ take (left - 32768) (all_frames (part (layout.bitmaps + (at + 4096)) k bytes) (part (layout.bitmaps + layout.half + (at + 4096)) k bytes))) n_next

pub block_more : (content one two : Option (List ℕ)) (new now : Walk) (layout : Layout) (at left : ℕ) (first_count second_count : ℕ) (memory dumped : List ℕ) → one ≡ content → two ≡ content → first_count ≡ 4096 → second_count ≡ 4096
    → HasPart one (layout.bitmaps + at) first_count memory → HasPart two (layout.bitmaps + layout.half + at) second_count dumped → length memory ≡ 4096 → length dumped ≡ 4096 → 4096 ≤ layout.half - at
    → ((rest : List Frame) → runs_after new rest ≡ runs_after now (take left (all_frames memory dumped) ++ rest))
    → IfSome content (λ bytes. runs_after now (left_frames layout at left bytes) ≡ runs_of (frames_of layout bytes))
    → IfSome content (λ bytes. runs_after new (left_frames layout (at + 4096) (left - 32768) bytes) ≡ runs_of (frames_of layout bytes))
block_more None one two new now layout at left first_count second_count memory dumped is_one is_two is_first is_second first second long_first long_second enough step before = tt
block_more (Some bytes) one two new now layout at left first_count second_count memory dumped is_one is_two is_first is_second first second long_first long_second enough step before =
    let first_is : memory ≡ take 4096 (drop (layout.bitmaps + at) bytes) = subst (λ (c : Option (List ℕ)). HasPart c (layout.bitmaps + at) first_count memory) is_one first ∙ ap (λ (k : ℕ). take k (drop (layout.bitmaps + at) bytes)) is_first in
    let second_is : dumped ≡ take 4096 (drop (layout.bitmaps + layout.half + at) bytes) = subst (λ (c : Option (List ℕ)). HasPart c (layout.bitmaps + layout.half + at) second_count dumped) is_two second ∙ ap (λ (k : ℕ). take k (drop (layout.bitmaps + layout.half + at) bytes)) is_second in
    step (left_frames layout (at + 4096) (left - 32768) bytes)
    ∙ ap (λ (fs : List Frame). runs_after now fs) (sym (block_whole layout at left bytes memory dumped first_is second_is long_first long_second enough))
    ∙ before

pub block_many : (content one two : Option (List ℕ)) (now : Walk) (layout : Layout) (at left : ℕ) (first_count second_count : ℕ) (memory dumped : List ℕ) → one ≡ content → two ≡ content → first_count ≡ 4096 → second_count ≡ 4096
    → HasPart one (layout.bitmaps + at) first_count memory → HasPart two (layout.bitmaps + layout.half + at) second_count dumped → length memory ≡ 4096 → length dumped ≡ 4096 → 4096 ≤ layout.half - at
    → IfSome content (λ bytes. runs_after now (left_frames layout at left bytes) ≡ runs_of (frames_of layout bytes))
    → ((rest : List Frame) → 4194304 < length (runs_after now (take left (all_frames memory dumped) ++ rest)))
    → IfSome content (λ bytes. 4194304 < length (runs_of (frames_of layout bytes)))
block_many None one two now layout at left first_count second_count memory dumped is_one is_two is_first is_second first second long_first long_second enough before many = tt
block_many (Some bytes) one two now layout at left first_count second_count memory dumped is_one is_two is_first is_second first second long_first long_second enough before many =
    let first_is : memory ≡ take 4096 (drop (layout.bitmaps + at) bytes) = subst (λ (c : Option (List ℕ)). HasPart c (layout.bitmaps + at) first_count memory) is_one first ∙ ap (λ (k : ℕ). take k (drop (layout.bitmaps + at) bytes)) is_first in
    let second_is : dumped ≡ take 4096 (drop (layout.bitmaps + layout.half + at) bytes) = subst (λ (c : Option (List ℕ)). HasPart c (layout.bitmaps + layout.half + at) second_count dumped) is_two second ∙ ap (λ (k : ℕ). take k (drop (layout.bitmaps + layout.half + at) bytes)) is_second in
    let whole = ap (λ (fs : List Frame). runs_after now fs) (sym (block_whole layout at left bytes memory dumped first_is second_is long_first long_second enough)) ∙ before in
    subst (λ (rs : List PageRun). 4194304 < length rs) whole (many (left_frames layout (at + 4096) (left - 32768) bytes))
