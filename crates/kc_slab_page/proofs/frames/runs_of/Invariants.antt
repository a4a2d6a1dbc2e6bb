use Rattle.std.proofs.Common.{◌≡◌, map, take}
use Rattle.kc_slab_page.specs.Frames.Frames.{run_of}
use Rattle.kc_slab_page.proofs.frames.runs_of.Given as goal

-- the runs of the segments so far
abbrev pub invariant-loop-segment : goal.invariant-loop-segment
invariant-loop-segment l = l.runs.items ≡ map run_of (take l.segment-index l.segments)
