use Rattle.std.proofs.Common.{arith}
use Rattle.kc_syms.proofs.LaneLemmas.{run-longer}
use Rattle.kc_syms.proofs.lanes.name_run.Goals as goal

pub returns-then-run-lt-LANES-clause-names : goal.returns-then-run-lt-LANES-clause-names
returns-then-run-lt-LANES-clause-names c =
    run-longer c.args.text.now c.loop-seen.seen c.run_at-run.result c.loop-seen.invariant.1 c.run_at-run.ensures.names

pub loop-seen-preserved : goal.loop-seen-preserved
loop-seen-preserved c = (
  omega (arith, c.run_at-run.ensures.within),
  run-longer c.args.text.now c.loop-seen.seen c.run_at-run.result c.loop-seen.invariant.1 c.run_at-run.ensures.names,
)
