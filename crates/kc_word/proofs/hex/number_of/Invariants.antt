use Rattle.std.proofs.Common.{◌≡◌, ◌<◌, ◌^◌, drop}
use Rattle.kc_word.specs.Hex.{hex_from}
use Rattle.kc_word.proofs.hex.number_of.Given as goal

-- the number so far, and the digits that are left
abbrev pub invariant-loop-c : goal.invariant-loop-c
invariant-loop-c l = record {
  fits : l.number < 16 ^ l.c-index;
  whole : hex_from l.number (drop l.c-index l.digits) ≡ hex_from 0 l.digits;
}
