use Rattle.std.proofs.Common.{◌≡◌, ◌++◌, drop, take, All}
use Rattle.kc_text.specs.Compose.{texts}
use Rattle.kc_report.specs.Roots.{IsRoot, root_text}
use Rattle.kc_report.proofs.write.push_roots.Given as goal

-- what was added, and what is still to come, are the whole
abbrev pub invariant-loop-i : goal.invariant-loop-i
invariant-loop-i l = (l.text.items ++ texts root_text (drop l.i l.roots) ≡ l.fn.text.items ++ texts root_text l.roots) × All IsRoot (take l.i l.roots)
