use Rattle.std.proofs.Common.{not}
use Rattle.kc_layout.specs.Path.{is_digit}
use Rattle.kc_layout.proofs.PathLemmas.{position_or_len-Some, position_or_len-None}
use Rattle.kc_layout.proofs.path.digits_length.Goals as goal

pub returns-in-Some-clause-exact : goal.returns-in-Some-clause-exact
returns-in-Some-clause-exact c = position_or_len-Some (λ x. not (is_digit x)) c.args.text.now c.in-Some.end c.in-Some.ensures.exact

pub returns-in-None-clause-exact : goal.returns-in-None-clause-exact
returns-in-None-clause-exact c = position_or_len-None (λ x. not (is_digit x)) c.args.text.now c.in-None.ensures.exact
