-- Runs of page frames. A run is a row of page frames whose pages are in the dump, and the row of those after it that
-- are memory and were left out; each row is as long as can be, and one of them may be empty.
use Rattle.std.specs.Prelude.{ℕ, ◌+◌, ◌-◌, max, min, ◌==◌, List, [], ◌∷◌, ◌++◌, if◌then◌else◌}
use Rattle.kc_kdump.specs.declared.frame.Frame.{Frame}
use Rattle.kc_kdump.specs.declared.frame.Frame.TheVariants.{Dumped, LeftOut, Hole}
use Rattle.kc_kdump.specs.declared.run.PageRun.{PageRun}

-- the page frame after a run
abbrev pub end_of : PageRun → ℕ
end_of run = run.first + run.dumped + run.left

-- a run of no page frame, before a page frame
abbrev pub empty_at : ℕ → PageRun
empty_at pfn = record { first = pfn; dumped = 0; left = 0 }

-- a run, unless it is empty
abbrev pub shown : PageRun → List PageRun
shown run = if run.dumped + run.left == 0 then [] else run ∷ []

-- the runs of a run that was begun and of the page frames after it
abbrev pub runs_from : PageRun → List Frame → List PageRun
runs_from run [] = shown run
runs_from run (Dumped ∷ frames) =
    if run.left == 0 then runs_from (record run { dumped = run.dumped + 1 }) frames
    else run ∷ runs_from (record { first = end_of run; dumped = 1; left = 0 }) frames
runs_from run (LeftOut ∷ frames) = runs_from (record run { left = run.left + 1 }) frames
runs_from run (Hole ∷ frames) = shown run ++ runs_from (empty_at (end_of run + 1)) frames

-- the runs of all page frames
abbrev pub runs_of : List Frame → List PageRun
runs_of frames = runs_from (empty_at 0) frames

-- the page frame after the last one of any run
abbrev pub reach : List PageRun → ℕ
reach [] = 0
reach (run ∷ runs) = max (end_of run) (reach runs)

-- how many pages are in the dump
abbrev pub page_count : List PageRun → ℕ
page_count [] = 0
page_count (run ∷ runs) = run.dumped + page_count runs

-- a run, where only so many of its pages are there: the others are as those that were left out
abbrev pub cut_run : ℕ → PageRun → PageRun
cut_run n run = record { first = run.first; dumped = min n run.dumped; left = run.left + (run.dumped - n) }

-- the same of runs, where only so many of all pages are there
unfoldable pub cut_runs : ℕ → List PageRun → List PageRun
cut_runs n [] = []
cut_runs n (run ∷ runs) = cut_run n run ∷ cut_runs (n - run.dumped) runs
