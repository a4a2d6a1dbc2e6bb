use Rattle.std.proofs.Common.{◌≡◌, ◌≤◌, ◌+◌, ◌*◌, drop, map}
use Rattle.kc_memory.specs.Stays.{SpaceStays}
use Rattle.kc_plan.specs.Planned.{check_seen}
use Rattle.kc_run.proofs.Checking.{ChecksLeft}
use Rattle.kc_run.proofs.checks.look_checks.Given as goal

abbrev pub invariant-loop-i : goal.invariant-loop-i
invariant-loop-i g l =
    ChecksLeft (g.S.Space.image l.fn.space) l.asked l.element (map check_seen l.checks) (drop l.i (map check_seen l.checks))
    × SpaceStays g.S.Space.image g.S.Space.files g.S.Space.through g.S.Space.most l.fn.space l.space
    × (g.S.Space.faults l.space ≡ g.S.Space.faults l.fn.space)
    × (l.steps ≤ l.fn.steps + 480 * l.i)
