use Rattle.std.proofs.Common.{◌≡◌, ◌≤◌, ◌+◌, ◌*◌, drop}
use Rattle.kc_memory.specs.Stays.{SpaceStays}
use Rattle.kc_plan.specs.Planned.{audit_seen}
use Rattle.kc_cert.proofs.FitsLemmas.Holding.{HoldLeft}
use Rattle.kc_cert.proofs.fits.fits.test_elements.Given as goal

abbrev pub invariant-loop-i : goal.invariant-loop-i
invariant-loop-i g l =
    HoldLeft (g.S.Space.image l.fn.space) l.asked.audit (audit_seen l.audit) l.asked.start l.nodes (drop l.i l.nodes)
    × SpaceStays g.S.Space.image g.S.Space.files g.S.Space.through g.S.Space.most l.fn.space l.space
    × (g.S.Space.faults l.space ≡ g.S.Space.faults l.fn.space)
    × (l.steps ≤ l.fn.steps + 15360 * l.i)
