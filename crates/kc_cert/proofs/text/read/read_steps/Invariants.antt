use Rattle.std.proofs.Common.{◌-◌}
use Rattle.kc_cert.specs.Text.CertTexts.{step_format}
use Rattle.kc_cert.proofs.TextLemmas.TimesLoops.{Left}
use Rattle.kc_cert.proofs.text.read.read_steps.Given as goal

abbrev pub invariant-loop : goal.invariant-loop
invariant-loop l = Left step_format l.bytes l.count l.fn.cert l.cert (l.count - l.counter) l.rest
