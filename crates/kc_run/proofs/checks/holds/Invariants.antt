use Rattle.std.proofs.Common.{◌≡◌, map, take}
use Rattle.std.specs.Prelude.{All}
use Rattle.kc_expr.specs.Values.{IsWord}
use Rattle.kc_memory.specs.Bits.{Number}
use Rattle.kc_run.proofs.checks.holds.Given as goal

abbrev pub invariant-loop-i : goal.invariant-loop-i
invariant-loop-i l = (l.values.items ≡ map (λ (n : Number). n.value) (take l.i l.numbers)) × All IsWord l.values.items
