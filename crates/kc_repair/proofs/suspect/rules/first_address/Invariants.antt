use Rattle.std.proofs.Common.{◌≡◌, drop}
use Rattle.kc_repair.specs.Suspect.Suspects.{first_address}
use Rattle.kc_repair.proofs.suspect.rules.first_address.Given as goal

-- it is among those that are left
abbrev pub invariant-loop-place : goal.invariant-loop-place
invariant-loop-place l = first_address (drop l.place-index l.places) ≡ first_address l.places
