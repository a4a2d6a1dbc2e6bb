use Rattle.std.proofs.Common.{◌≡◌, drop}
use Rattle.kc_repair.specs.Elements.{elements_in}
use Rattle.kc_repair.proofs.elements.elements_in.Given as goal

-- the audit is among those that are left
abbrev pub invariant-loop-i : goal.invariant-loop-i
invariant-loop-i l = elements_in l.number (drop l.i l.audits) (drop l.i l.counts) ≡ elements_in l.number l.audits l.counts
