use Rattle.kc_report.proofs.ItemLemmas.{counted_item}
use Rattle.kc_report.proofs.make.counted.Goals as goal

pub loop-i-preserved : goal.loop-i-preserved
loop-i-preserved c =
    counted_item c.args.plan_names.now c.args.counts.now c.loop-i.i c.in_ok-line.line _ _ _ c.in_ok-line.ensures c.in_ok-push.ensures.added c.loop-i.invariant
