-- What the runs say of the bitmaps.
use Rattle.std.specs.Prelude.{◌≡◌, ℕ, zero, suc, ◌+◌, ◌*◌, ◌/◌, ◌%◌, ◌^◌, ◌==◌, ◌≤◌, List, [], ◌∷◌, ◌++◌, length, take, slice_index, if◌then◌else◌}
use Rattle.kc_kdump.specs.declared.layout.Layout.{Layout}
use Rattle.kc_kdump.specs.declared.run.PageRun.{PageRun}
use Rattle.kc_kdump.specs.Bytes.{part}
use Rattle.kc_kdump.specs.Frames.{frames_of}
use Rattle.kc_kdump.specs.Header.{table_in}
use Rattle.kc_kdump.specs.Runs.{cut_runs, runs_of}

-- so many page frames, from one on
unfoldable pub row : ℕ → ℕ → List ℕ
row pfn zero = []
row pfn (suc n) = pfn ∷ row (pfn + 1) n

-- the page frames of runs whose pages are in the dump, in the order of the pages
abbrev pub frames_in : List PageRun → List ℕ
frames_in [] = []
frames_in (run ∷ runs) = row run.first run.dumped ++ frames_in runs

-- the bit of a page frame in a bitmap
abbrev pub bit_of : List ℕ → ℕ → ℕ
bit_of bitmap pfn = slice_index bitmap (pfn / 8) / 2 ^ (pfn % 8) % 2

-- of so many page frames from one on those whose bit is 1
unfoldable pub marked : List ℕ → ℕ → ℕ → List ℕ
marked bitmap pfn zero = []
marked bitmap pfn (suc n) = if bit_of bitmap pfn == 1 then pfn ∷ marked bitmap (pfn + 1) n else marked bitmap (pfn + 1) n

-- the second bitmap
abbrev pub second_bitmap : Layout → List ℕ → List ℕ
second_bitmap layout bytes = part (layout.bitmaps + layout.half) layout.half bytes

-- Page i in the dump is that of the i-th page frame whose bit in the second bitmap is 1.
abbrev pub PagesAreMarked : Type 0
PagesAreMarked =
    (layout : Layout) (bytes : List ℕ) → layout.frames ≤ 8 * layout.half → table_in layout ≤ length bytes
    → frames_in (runs_of (frames_of layout bytes)) ≡ marked (second_bitmap layout bytes) 0 layout.frames

-- Of an incomplete dump these are the first so many.
abbrev pub CutsAreFirst : Type 0
CutsAreFirst = (n : ℕ) (runs : List PageRun) → frames_in (cut_runs n runs) ≡ take n (frames_in runs)
