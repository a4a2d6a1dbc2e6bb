use Rattle.kc_slabs.proofs.SlabsLemmas.{text_after}
use Rattle.kc_slabs.proofs.text.push_broken_ring.Goals as goal

pub returns : goal.returns
returns c = text_after c.push_rule.result c.args.text.now.items _ c.push.new.text.items _ c.push_rule.new.text.items c.in_ok-push.ensures c.push_rule.ensures
