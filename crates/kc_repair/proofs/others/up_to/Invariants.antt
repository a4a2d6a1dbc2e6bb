use Rattle.std.proofs.Common.{◌≡◌, ◌+◌, drop}
use Rattle.kc_repair.specs.Others.{is_change, up_to}
use Rattle.kc_repair.proofs.others.up_to.Given as goal

-- those that are left come after so many
abbrev pub invariant-loop-i : goal.invariant-loop-i
invariant-loop-i l = up_to (is_change l.first) l.suspects ≡ l.i + up_to (is_change l.first) (drop l.i l.suspects)
