use Rattle.std.proofs.Common.{length, ap, ◌∙◌}
use Rattle.kc_plain.proofs.HeadLemmas.{length-headers}
use Rattle.kc_plain.proofs.head.know_headers.Goals as goal

pub returns : goal.returns
returns c = ap length c.requires ∙ length-headers c.args.runs.now c.args.root c.args.notes.now
