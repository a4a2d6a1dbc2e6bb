use Rattle.kc_run.proofs.Counting.{one_more}
use Rattle.kc_run.proofs.counts.no_walks.Goals as goal

pub loop-preserved : goal.loop-preserved
loop-preserved c = one_more c.args.plan.now.audits c.loop.counter c.count-end.result c.loop.counts c.push.new.self c.loop-test.true c.count-end.ensures.count c.loop.invariant c.in_ok-push.ensures.added
