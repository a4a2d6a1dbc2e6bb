use Rattle.std.proofs.Common.{◌≡◌, ◌++◌, ◌-◌}
use Rattle.kc_gen.specs.Bytes.{number_bytes}
use Rattle.kc_gen.proofs.bytes.push_number.Given as goal

-- what was added, and what is still to come, are the whole
abbrev pub invariant-loop : goal.invariant-loop
invariant-loop l = l.bytes.items ++ number_bytes (l.width - l.counter) l.rest ≡ l.fn.bytes.items ++ number_bytes l.width l.fn.value
