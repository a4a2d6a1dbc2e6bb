use Rattle.std.proofs.Common.{◌≡◌, take}
use Rattle.std.specs.List.{filter}
use Rattle.kc_repair.specs.Repairs.{is_apart}
use Rattle.kc_repair.proofs.seeking.apart.Given as goal

-- those so far that are apart are kept
abbrev pub invariant-loop-i : goal.invariant-loop-i
invariant-loop-i l = l.kept ≡ filter (is_apart l.earlier) (take l.i l.suspects)
