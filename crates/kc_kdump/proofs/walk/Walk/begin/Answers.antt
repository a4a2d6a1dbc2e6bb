use Rattle.std.proofs.Common.{arith}
use Rattle.kc_kdump.proofs.RunLemmas.{page_count-more, reach-more}
use Rattle.kc_kdump.proofs.walk.Walk.begin.Goals as goal

pub invariant_of-self-2-clause-counted : goal.invariant_of-self-2-clause-counted
invariant_of-self-2-clause-counted c =
    let more = page_count-more c.args.self.now.runs.items c.put_run.new.runs.items c.args.self.now.run c.in_ok-put_run.ensures.runs in
    omega (arith, more, c.args.self.now.counted)

pub invariant_of-self-2-clause-reached : goal.invariant_of-self-2-clause-reached
invariant_of-self-2-clause-reached c =
    let more = reach-more c.args.self.now.runs.items c.put_run.new.runs.items c.args.self.now.run c.in_ok-put_run.ensures.runs c.args.self.now.reached in
    omega (arith, more, c.requires.after)
