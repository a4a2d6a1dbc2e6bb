use Rattle.std.proofs.Common.{◌∙◌, option_and_then, ap}
use Rattle.kc_app.specs.Selftest.{count_of}
use Rattle.kc_app.proofs.Counts.{counted}
use Rattle.kc_app.proofs.selftest.read_count.Goals as goal

pub returns-clause-exact : goal.returns-clause-exact
returns-clause-exact c = c.count_of.ensures.exact ∙ ap (option_and_then count_of) c.read_dec.ensures ∙ counted c.args.text.now c.if-text-gt6.false
