use Rattle.std.proofs.Common.{◌≡◌, ◌++◌, drop}
use Rattle.kc_repair.specs.Suspect.Suspects.{shown}
use Rattle.kc_repair.proofs.suspect.rules.push_shown.Given as goal

-- what was added, and what is still to come, are the whole
abbrev pub invariant-loop-place : goal.invariant-loop-place
invariant-loop-place l = l.changes ++ shown (drop l.place-index l.places) ≡ l.fn.changes ++ shown l.places
