use Rattle.std.proofs.Common.{◌≡◌, ◌++◌}
use Rattle.std.specs.List.{flat_map}
use Rattle.kc_repair.specs.Suspect.Changes.{flipped, is_counted, suspect_of, taken_below}
use Rattle.kc_repair.proofs.suspect.made.push_counts.Given as goal

abbrev pub invariant-loop-bit : goal.invariant-loop-bit
invariant-loop-bit l = l.suspects ≡ l.fn.suspects ++ flat_map (suspect_of l.word) (taken_below is_counted (flipped l.word.value) l.bit)
