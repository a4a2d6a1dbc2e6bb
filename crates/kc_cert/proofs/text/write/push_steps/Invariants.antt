use Rattle.std.proofs.Common.{◌≡◌, ◌++◌, drop, take, All}
use Rattle.kc_text.specs.Compose.{texts}
use Rattle.kc_cert.specs.Text.CertTexts.{IsStep, step_text}
use Rattle.kc_text.specs.Counted.{counted_text}
use Rattle.kc_cert.proofs.text.write.push_steps.Given as goal

-- what was added, and what is still to come, are the whole
abbrev pub invariant-loop-i : goal.invariant-loop-i
invariant-loop-i l = (l.text.items ++ texts step_text (drop l.i l.cert) ≡ l.fn.text.items ++ counted_text step_text l.cert) × All IsStep (take l.i l.cert)
