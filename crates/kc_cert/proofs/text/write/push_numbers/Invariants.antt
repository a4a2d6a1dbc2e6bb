use Rattle.std.proofs.Common.{◌≡◌, ℕ, ◌<◌, ◌^◌, ◌++◌, drop, take, All}
use Rattle.kc_text.specs.Compose.{texts}
use Rattle.kc_cert.specs.Text.CertTexts.{number_line}
use Rattle.kc_text.specs.Counted.{counted_text}
use Rattle.kc_cert.proofs.text.write.push_numbers.Given as goal

-- what was added, and what is still to come, are the whole
abbrev pub invariant-loop-i : goal.invariant-loop-i
invariant-loop-i l = (l.text.items ++ texts number_line (drop l.i l.list) ≡ l.fn.text.items ++ counted_text number_line l.list) × All (λ (n : ℕ). n < 2 ^ 64) (take l.i l.list)
