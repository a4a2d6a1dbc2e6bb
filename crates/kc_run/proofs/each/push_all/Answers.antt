use Rattle.kc_run.proofs.RootLaws.{number_added}
use Rattle.kc_run.proofs.each.push_all.Goals as goal

pub loop-i-preserved : goal.loop-i-preserved
loop-i-preserved c =
    number_added c.args.numbers.now c.args.more.now c.loop-i.numbers c.push.new.self c.loop-i.i c.get.result.now c.get.ensures c.loop-i.invariant c.in_ok-push.ensures.added
