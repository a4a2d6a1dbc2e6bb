use Rattle.kc_slabs.proofs.SlabsLemmas.{text_after}
use Rattle.kc_slabs.proofs.of_cache.push_unknown.Goals as goal

pub returns : goal.returns
returns c = text_after c.push_why.result c.args.text.now.items _ c.push.new.text.items _ c.push_why.new.text.items c.in_ok-push.ensures c.push_why.ensures
