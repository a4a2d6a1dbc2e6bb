use Rattle.std.proofs.Common.{◌≡◌, ◌≤◌, ◌+◌, ◌*◌, drop, length}
use Rattle.kc_memory.specs.Stays.{SpaceStays}
use Rattle.kc_run.proofs.Checking.{FieldsLeft}
use Rattle.kc_run.proofs.checks.read_fields.Given as goal

abbrev pub invariant-loop-i : goal.invariant-loop-i
invariant-loop-i g l =
    FieldsLeft (g.S.Space.image l.fn.space) l.element.at l.fields l.numbers (drop l.i l.fields)
    × SpaceStays g.S.Space.image g.S.Space.files g.S.Space.through g.S.Space.most l.fn.space l.space
    × (g.S.Space.faults l.space ≡ g.S.Space.faults l.fn.space)
    × (length l.numbers ≡ l.i)
    × (l.steps ≤ l.fn.steps + 60 * l.i)
