use Rattle.kc_report.proofs.BackLemmas.{GoesOn}
use Rattle.kc_report.proofs.back.read_roots.Given as goal

abbrev pub invariant-loop-left : goal.invariant-loop-left
invariant-loop-left l = GoesOn l.count l.bytes l.left l.roots l.rest

abbrev pub decreases-loop-left : goal.decreases-loop-left
decreases-loop-left l = l.left
