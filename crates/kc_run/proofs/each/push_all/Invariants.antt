use Rattle.std.proofs.Common.{◌≡◌, ◌++◌, take}
use Rattle.kc_run.proofs.each.push_all.Given as goal

-- the numbers so far
abbrev pub invariant-loop-i : goal.invariant-loop-i
invariant-loop-i l = l.numbers ≡ l.fn.numbers ++ take l.i l.more
