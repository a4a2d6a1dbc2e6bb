use Rattle.kc_report.specs.Roots.{IsRoot, root_text}
use Rattle.kc_report.proofs.ItemLemmas.{all_item, texts_item}
use Rattle.kc_report.proofs.write.push_roots.Goals as goal

pub loop-i-preserved : goal.loop-i-preserved
loop-i-preserved c = (
  texts_item root_text c.args.roots.now c.loop-i.i _ _ _ _ c.get.ensures c.in_ok-push_root.ensures.added c.loop-i.invariant.0,
  all_item IsRoot c.args.roots.now c.loop-i.i _ c.get.ensures c.loop-i.invariant.1 c.in_ok-push_root.ensures.keeps,
)
