-- What the bitmaps say of each page frame (makedumpfile, IMPLEMENTATION: the first bitmap has the page frames that
-- are memory, and the second those whose pages are in the dump; the page frame pfn is bit pfn % 8 of byte pfn / 8).
use Rattle.std.specs.Prelude.{ℕ, zero, suc, ◌+◌, ◌/◌, ◌%◌, ◌==◌, List, [], ◌∷◌, ◌++◌, take, if◌then◌else◌}
use Rattle.kc_kdump.specs.declared.frame.Frame.{Frame}
use Rattle.kc_kdump.specs.declared.frame.Frame.TheVariants.{Dumped, LeftOut, Hole}
use Rattle.kc_kdump.specs.declared.layout.Layout.{Layout}
use Rattle.kc_kdump.specs.Bytes.{part}

-- a page frame by its bits of both bitmaps
abbrev pub frame_of : ℕ → ℕ → Frame
frame_of memory dumped = if dumped == 1 then Dumped else (if memory == 1 then LeftOut else Hole)

-- so many page frames by one byte of each bitmap, the lowest bit first
unfoldable pub frames_by : ℕ → ℕ → ℕ → List Frame
frames_by zero memory dumped = []
frames_by (suc n) memory dumped = frame_of (memory % 2) (dumped % 2) ∷ frames_by n (memory / 2) (dumped / 2)

-- the page frames by both bitmaps, eight for each byte
unfoldable pub all_frames : List ℕ → List ℕ → List Frame
all_frames [] ds = []
all_frames (m ∷ ms) [] = []
all_frames (m ∷ ms) (d ∷ ds) = frames_by 8 m d ++ all_frames ms ds

-- the page frames of a dump
abbrev pub frames_of : Layout → List ℕ → List Frame
frames_of layout bytes =
    take layout.frames (all_frames (part layout.bitmaps layout.half bytes) (part (layout.bitmaps + layout.half) layout.half bytes))
