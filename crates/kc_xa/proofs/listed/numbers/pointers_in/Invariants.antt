use Rattle.std.proofs.Common.{◌≡◌, ◌≤◌, ◌++◌, drop, length}
use Rattle.kc_xa.specs.Listed.Entries.{pointers}
use Rattle.kc_xa.proofs.listed.numbers.pointers_in.Given as goal

abbrev pub invariant-loop-number : goal.invariant-loop-number
invariant-loop-number l = (pointers l.numbers ≡ l.found ++ pointers (drop l.number-index l.numbers)) × (length l.found ≤ l.number-index)
