use Rattle.std.proofs.Common.{◌≡◌, ◌+◌, drop}
use Rattle.kc_refs.specs.Progress.{words_in}
use Rattle.kc_refs.proofs.progress.words_in.Given as goal

-- the words so far, and those that are still to come, are all
abbrev pub invariant-loop-segment : goal.invariant-loop-segment
invariant-loop-segment l = l.words + words_in (drop l.segment-index l.segments) ≡ words_in l.segments
