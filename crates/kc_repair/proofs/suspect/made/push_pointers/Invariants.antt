use Rattle.std.proofs.Common.{◌≡◌, ◌++◌}
use Rattle.std.specs.List.{flat_map}
use Rattle.kc_repair.specs.Suspect.Changes.{is_no_value, suspect_of, taken_below, turned}
use Rattle.kc_repair.proofs.suspect.made.push_pointers.Given as goal

abbrev pub invariant-loop-i : goal.invariant-loop-i
invariant-loop-i l = l.suspects ≡ l.fn.suspects ++ flat_map (suspect_of l.word) (taken_below is_no_value (turned l.word.value) l.i)
