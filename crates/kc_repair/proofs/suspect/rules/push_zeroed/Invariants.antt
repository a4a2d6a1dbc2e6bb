use Rattle.std.proofs.Common.{◌≡◌, ◌++◌, drop}
use Rattle.kc_repair.specs.Suspect.Suspects.{zeroed}
use Rattle.kc_repair.proofs.suspect.rules.push_zeroed.Given as goal

-- what was added, and what is still to come, are the whole
abbrev pub invariant-loop-place : goal.invariant-loop-place
invariant-loop-place l = l.changes ++ zeroed (drop l.place-index l.places) ≡ l.fn.changes ++ zeroed l.places
