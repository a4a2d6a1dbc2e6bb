use Rattle.std.proofs.Common.{◌≡◌, ◌++◌, drop}
use Rattle.kc_gen.specs.Types.{numbers_bytes}
use Rattle.kc_gen.proofs.types.push_numbers.Given as goal

-- what was added, and what is still to come, are the whole
abbrev pub invariant-loop-number : goal.invariant-loop-number
invariant-loop-number l = l.bytes.items ++ numbers_bytes (drop l.number-index l.numbers) ≡ l.fn.bytes.items ++ numbers_bytes l.numbers
