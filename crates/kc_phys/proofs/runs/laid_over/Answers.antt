use Rattle.std.proofs.Common.{◌^◌, ◌<◌, length, arith}
use Rattle.kc_phys.proofs.RunLemmas.{one_laid, are_over}
use Rattle.kc_phys.proofs.runs.laid_over.Goals as goal

pub loop-run-preserved : goal.loop-run-preserved
loop-run-preserved c =
    let lt : c.loop-run.run-index < length c.args.over.now = omega arith in
    rw c.in_ok-push.ensures.items
    (one_laid (2 ^ 62) c.loop-run.from c.loop-run.run-index c.loop-run.at c.in_ok-at.at c.args.over.now c.args.under.now c.loop-run.runs.items c.push_parts.new.all.items
    (record { first = 0; end = 0; segment = 0 }) lt c.loop-run.invariant c.in_ok-at.ensures.parts c.in_ok-at.ensures.within c.in_ok-at.ensures.rest)

pub returns-clause-law : goal.returns-clause-law
returns-clause-law c =
    (are_over (2 ^ 62) c.loop-run.from c.loop-run.run-index c.loop-run.at c.args.over.now c.args.under.now c.loop-run.runs.items _ c.requires.over c.requires.under (omega arith) c.loop-run.invariant c.in_ok-push_parts.ensures.parts).law

pub returns-clause-apart : goal.returns-clause-apart
returns-clause-apart c =
    (are_over (2 ^ 62) c.loop-run.from c.loop-run.run-index c.loop-run.at c.args.over.now c.args.under.now c.loop-run.runs.items _ c.requires.over c.requires.under (omega arith) c.loop-run.invariant c.in_ok-push_parts.ensures.parts).apart

pub returns-clause-edges : goal.returns-clause-edges
returns-clause-edges c =
    (are_over (2 ^ 62) c.loop-run.from c.loop-run.run-index c.loop-run.at c.args.over.now c.args.under.now c.loop-run.runs.items _ c.requires.over c.requires.under (omega arith) c.loop-run.invariant c.in_ok-push_parts.ensures.parts).edges
