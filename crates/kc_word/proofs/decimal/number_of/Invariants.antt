use Rattle.std.proofs.Common.{◌≡◌, ◌<◌, ◌^◌, drop}
use Rattle.kc_word.specs.Decimal.{decimal_from}
use Rattle.kc_word.proofs.decimal.number_of.Given as goal

-- the number so far, and the digits that are left
abbrev pub invariant-loop-c : goal.invariant-loop-c
invariant-loop-c l = record {
  fits : l.number < 10 ^ l.c-index;
  whole : decimal_from l.number (drop l.c-index l.digits) ≡ decimal_from 0 l.digits;
}
