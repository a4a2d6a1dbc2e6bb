use Rattle.std.proofs.Common.{◌≡◌, ◌+◌, ◌*◌, ◌++◌}
use Rattle.kc_gen.specs.Bytes.{each, word_bytes}
use Rattle.kc_gen.proofs.memory.push_entries.Given as goal

-- the entries so far
abbrev pub invariant-loop-i : goal.invariant-loop-i
invariant-loop-i l = l.bytes.items ≡ l.fn.bytes.items ++ each l.i (λ i. word_bytes (l.entries.first + l.entries.step * i))
