use Rattle.std.proofs.Common.{◌≡◌, ◌≤◌, ◌-◌, get_or, sym, arith}
use Rattle.kc_kdump.specs.declared.run.PageRun.{PageRun}
use Rattle.kc_plain.proofs.HeadLemmas.{count_at}
use Rattle.kc_plain.proofs.RootLemmas.{found_here, found_later, found_never}
use Rattle.kc_plain.proofs.root.number_of.Goals.{else-run-frame-via-then-run-frame+else-frame-run, else-run-frame-via-else-run-frame}
use Rattle.kc_plain.proofs.root.number_of.Goals as goal

pub returns-then-frame-run-clause-value : goal.returns-then-frame-run-clause-value
returns-then-frame-run-clause-value c =
    let none : PageRun = record { first = 0; dumped = 0; left = 0 } in
    sym (found_here c.args.frame c.loop-run.before c.loop-run.run-index c.args.runs.now none (omega arith) c.if-run-frame.true c.if-frame-run.true c.loop-run.invariant.whole)

pub loop-run-preserved : goal.loop-run-preserved
loop-run-preserved c =
    let none : PageRun = record { first = 0; dumped = 0; left = 0 } in
    let run = get_or c.args.runs.now c.loop-run.run-index none in
    let at = count_at c.args.runs.now c.loop-run.run-index none (omega arith) in
    let out : run.first ≤ c.args.frame → run.dumped ≤ c.args.frame - run.first =
    elim c.else-run-frame.branch [
      | else-run-frame-via-then-run-frame+else-frame-run w ↦ (λ from. w.if-frame-run.false)
      | else-run-frame-via-else-run-frame w ↦ (λ from. absurd (omega (arith, from, w.if-run-frame.false)))
    ] in
    record {
      whole = found_later c.args.frame c.loop-run.before c.loop-run.run-index c.args.runs.now none (omega arith) out c.loop-run.invariant.whole;
      count = omega (arith, at, c.loop-run.invariant.count);
    }

pub returns-clause-value : goal.returns-clause-value
returns-clause-value c = sym (found_never c.args.frame c.loop-run.before c.loop-run.run-index c.args.runs.now (omega arith) c.loop-run.invariant.whole)
