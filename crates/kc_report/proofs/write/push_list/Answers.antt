use Rattle.kc_report.specs.Report.{IsShown}
use Rattle.kc_report.proofs.ItemLemmas.{all_item, place_item}
use Rattle.kc_report.proofs.write.push_list.Goals as goal

pub loop-i-preserved : goal.loop-i-preserved
loop-i-preserved c = (
  place_item c.args.places.now c.loop-i.i _ _ _ _ c.get.ensures c.in_ok-push_shown.ensures.added c.loop-i.invariant.0,
  all_item IsShown c.args.places.now c.loop-i.i _ c.get.ensures c.loop-i.invariant.1 c.in_ok-push_shown.ensures.shown,
)
