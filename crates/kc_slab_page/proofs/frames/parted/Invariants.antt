use Rattle.std.proofs.Common.{◌≡◌, ◌++◌, drop}
use Rattle.kc_slab_page.specs.Frames.Frames.{parted}
use Rattle.kc_slab_page.proofs.frames.parted.Given as goal

-- what was parted, and what is still to come, are the whole
abbrev pub invariant-loop-run : goal.invariant-loop-run
invariant-loop-run l = l.parts.items ++ parted l.next (drop l.run-index l.runs) ≡ parted 0 l.runs
