use Rattle.kc_told.proofs.TextLemmas.{added_on}
use Rattle.kc_told.proofs.text.push_around.Goals as goal

pub returns : goal.returns
returns c = added_on c.push_span.result c.args.text.now.items _ _ _ _ c.in_ok-push_all_near.ensures (rw c.meaning_of.ensures at c.push_span.ensures)
