use Rattle.std.proofs.Common.{◌≡◌, ◌++◌, drop, take, All}
use Rattle.kc_text.specs.Compose.{texts}
use Rattle.kc_cert.specs.Text.CertTexts.{IsList, list_text}
use Rattle.kc_text.specs.Counted.{counted_text}
use Rattle.kc_cert.proofs.text.write.push_lists.Given as goal

-- what was added, and what is still to come, are the whole
abbrev pub invariant-loop-i : goal.invariant-loop-i
invariant-loop-i l = (l.text.items ++ texts list_text (drop l.i l.lists) ≡ l.fn.text.items ++ counted_text list_text l.lists) × All IsList (take l.i l.lists)
