use Rattle.std.proofs.Common.{length}
use Rattle.kc_run.proofs.RootLaws.{count_added, number_below}
use Rattle.kc_run.proofs.each.counts_at.Goals as goal

pub get-requires : goal.get-requires
get-requires c = number_below c.args.audits.now (length c.args.counts.now) c.loop-i.i c.get-audit.result.now c.requires c.get-audit.ensures

pub loop-i-preserved : goal.loop-i-preserved
loop-i-preserved c =
    count_added c.args.counts.now c.args.audits.now c.loop-i.i c.get-audit.result.now c.get.result.now c.loop-i.some c.push.new.self c.get-audit.ensures c.get.ensures c.loop-i.invariant c.in_ok-push.ensures.added
