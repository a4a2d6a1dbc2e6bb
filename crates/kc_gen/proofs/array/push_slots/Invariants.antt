use Rattle.std.proofs.Common.{◌≡◌, ◌++◌}
use Rattle.kc_gen.specs.Array.{entry}
use Rattle.kc_gen.specs.Bytes.{each, word_bytes}
use Rattle.kc_gen.proofs.array.push_slots.Given as goal

-- the slots so far
abbrev pub invariant-loop-i : goal.invariant-loop-i
invariant-loop-i l = l.bytes.items ≡ l.fn.bytes.items ++ each l.i (λ i. word_bytes (entry l.n l.level l.node i))
