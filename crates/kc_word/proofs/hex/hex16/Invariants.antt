use Rattle.std.proofs.Common.{◌≡◌, ◌≤◌, ◌++◌, length, drop}
use Rattle.kc_word.specs.Hex.{hex_digits}
use Rattle.kc_word.proofs.hex.hex16.Given as goal

-- what is written, behind the digits that are left
abbrev pub invariant-loop-at : goal.invariant-loop-at
invariant-loop-at l = record {
  length : length l.text ≡ 16;
  within : l.at ≤ 16;
  digits : hex_digits l.at l.left ++ drop l.at l.text ≡ hex_digits 16 l.fn.n;
}

abbrev pub decreases-loop-at : goal.decreases-loop-at
decreases-loop-at l = l.at
