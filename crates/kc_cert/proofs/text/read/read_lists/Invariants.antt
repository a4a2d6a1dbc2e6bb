use Rattle.std.proofs.Common.{◌-◌}
use Rattle.kc_cert.specs.Text.CertTexts.{list_format}
use Rattle.kc_cert.proofs.TextLemmas.TimesLoops.{Left}
use Rattle.kc_cert.proofs.text.read.read_lists.Given as goal

abbrev pub invariant-loop : goal.invariant-loop
invariant-loop l = Left list_format l.bytes l.count l.fn.lists l.lists (l.count - l.counter) l.rest
