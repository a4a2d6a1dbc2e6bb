use Rattle.std.proofs.Common.{◌≡◌, ◌++◌, take}
use Rattle.kc_report.proofs.write.push_bytes.Given as goal

abbrev pub invariant-loop-i : goal.invariant-loop-i
invariant-loop-i l = l.text.items ≡ l.fn.text.items ++ take l.i l.name
