-- The page frames of a dump. Source: ELF-64 object files (gABI), "Program Header"; the kernel's include/linux/pfn.h, `PFN_UP` and
-- `PFN_DOWN`: a frame's number is its physical address, in pages of 4096 bytes.
use Rattle.std.specs.Prelude.{ℕ, ◌+◌, ◌-◌, ◌*◌, ◌/◌, ◌%◌, ◌^◌, ◌≤◌, max, Bool, ◌&&◌, nat_eq, nat_le, nat_lt, if◌then◌else◌, List, [], ◌∷◌}
use Rattle.std.specs.List.{filter, flat_map, list_any, range_with_len}
use Rattle.kc_word.specs.declared.plain.Segment.{Segment}
use Rattle.kc_slab_page.specs.declared.frames.FrameRun.{FrameRun}

-- the file bytes of a segment hold a frame whole
abbrev pub has_frame : ℕ → Segment → Bool
has_frame n s = nat_le s.paddr (4096 * n) && nat_le (4096 * n + 4096) (s.paddr + s.filesz)

-- where the last whole frame of some segments ends
abbrev pub reach : List Segment → ℕ
reach [] = 0
reach (s ∷ ss) = max ((s.paddr + s.filesz) / 4096) (reach ss)

-- the frames that some segments hold: each number that one of them has, ascending
abbrev pub frames : List Segment → List ℕ
frames segments = filter (λ n. list_any (has_frame n) segments) (range_with_len 0 (reach segments))

-- a segment's file bytes lie in memory of 2^64 bytes
abbrev pub in_memory : Segment → Type 0
in_memory s = s.paddr + s.filesz ≤ 2 ^ 64

-- the frames of a run, and of runs
abbrev pub frames_in : FrameRun → List ℕ
frames_in r = range_with_len r.first (r.end - r.first)

abbrev pub frames_of : List FrameRun → List ℕ
frames_of runs = flat_map frames_in runs

-- those of a segment
abbrev pub run_of : Segment → FrameRun
run_of s = record { first = s.paddr / 4096 + (if nat_eq (s.paddr % 4096) 0 then 0 else 1); end = (s.paddr + s.filesz) / 4096 }

-- what runs have from one frame on, and that none before them has, where they come in the order of their first frames
unfoldable pub parted : ℕ → List FrameRun → List FrameRun
parted next [] = []
parted next (r ∷ rs) =
    if nat_lt (max r.first next) r.end then record { first = max r.first next; end = r.end } ∷ parted r.end rs else parted next rs
