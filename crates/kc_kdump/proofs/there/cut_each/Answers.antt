use Rattle.std.proofs.Common.{arith}
use Rattle.kc_kdump.specs.declared.run.PageRun.{PageRun}
use Rattle.kc_kdump.proofs.CutLemmas.{cut_end, cut_more, reach_at}
use Rattle.kc_kdump.proofs.there.cut_each.Goals as goal

pub cut_run-requires : goal.cut_run-requires
cut_run-requires c =
    let at = reach_at c.args.runs.now c.loop-run.run-index (record { first = 0; dumped = 0; left = 0 }) (omega arith) in
    omega (arith, at, c.requires)

pub loop-run-preserved : goal.loop-run-preserved
loop-run-preserved c =
    let none : PageRun = record { first = 0; dumped = 0; left = 0 } in
    record {
      whole = rw c.saturating_sub-left.ensures (cut_more c.loop-run.cut.items c.push.new.self.items c.args.runs.now _ c.loop-run.left c.args.there c.loop-run.run-index none (omega arith) (cc (c.in_ok-push.ensures.items, c.cut_run.ensures)) c.loop-run.invariant.whole);
      many = omega (arith, c.in_ok-push.ensures.len, c.loop-run.invariant.many);
    }

pub returns-clause-value : goal.returns-clause-value
returns-clause-value c = cut_end c.loop-run.cut.items c.args.runs.now _ c.loop-run.left c.loop-run.run-index (omega arith) c.loop-run.invariant.whole
