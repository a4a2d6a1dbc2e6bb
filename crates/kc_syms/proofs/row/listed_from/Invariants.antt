use Rattle.std.proofs.Common.{◌≡◌, ◌+◌, ◌-◌, ◌<◌, ◌^◌, drop, length}
use Rattle.kc_syms.specs.Reading.{listed_from}
use Rattle.kc_syms.proofs.row.listed_from.Given as goal

-- the address so far, and the digits that are left
abbrev pub invariant-loop-c : goal.invariant-loop-c
invariant-loop-c l = record {
  fits : l.listed < 16 ^ (16 - length l.digits + l.c-index);
  whole : listed_from l.listed (drop l.c-index l.digits) ≡ listed_from l.fn.number l.digits;
}
