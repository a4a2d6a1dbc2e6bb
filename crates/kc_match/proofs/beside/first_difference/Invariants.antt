use Rattle.std.proofs.Common.{◌≡◌}
use Rattle.kc_match.specs.Beside.{first_difference}
use Rattle.kc_match.proofs.BesideLemmas.{from_byte}
use Rattle.kc_match.proofs.beside.first_difference.Given as goal

-- what is found from here on is what is found
abbrev pub invariant-loop-at : goal.invariant-loop-at
invariant-loop-at l = first_difference l.file l.own ≡ from_byte l.file l.own l.at
