use Rattle.std.proofs.Common.{drop}
use Rattle.kc_rb.proofs.ListedLemmas.Pacing.{Turns}
use Rattle.kc_rb.proofs.listed.tree.turned.Given as goal

abbrev pub invariant-loop-i : goal.invariant-loop-i
invariant-loop-i l = Turns l.numbers l.nodes l.above.items (drop l.i l.numbers)
