use Rattle.std.proofs.Common.{◌^◌}
use Rattle.kc_phys.proofs.RunLemmas.{IsLaid}
use Rattle.kc_phys.proofs.runs.laid_over.Given as goal

-- What was added, and what is still to come from a word on, are the whole. What the lower runs have from there on,
-- they have from a place in their list on.
abbrev pub invariant-loop-run : goal.invariant-loop-run
invariant-loop-run l = IsLaid (2 ^ 62) l.from l.run-index l.at l.over l.under l.runs.items
