use Rattle.std.proofs.Common.{◌-◌}
use Rattle.kc_cert.specs.Text.CertTexts.{line_format}
use Rattle.kc_cert.proofs.TextLemmas.TimesLoops.{Left}
use Rattle.kc_cert.proofs.text.read.read_numbers.Given as goal

abbrev pub invariant-loop : goal.invariant-loop
invariant-loop l = Left line_format l.bytes l.count l.fn.list l.list (l.count - l.counter) l.rest
