use Rattle.kc_plain.proofs.PageLaws.{head_stands}
use Rattle.kc_plain.proofs.laws.know_head.Goals as goal

pub returns : goal.returns
returns c = head_stands
