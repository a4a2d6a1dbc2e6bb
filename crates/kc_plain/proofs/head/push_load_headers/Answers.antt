use Rattle.std.proofs.Common.{arith}
use Rattle.kc_plain.proofs.HeadLemmas.{count_at, no_run, one_run, reach_at}
use Rattle.kc_plain.proofs.head.push_load_headers.Goals as goal

pub push_load_header-requires : goal.push_load_header-requires
push_load_header-requires c =
    let at = reach_at c.args.runs.now c.loop-run.run-index (record { first = 0; dumped = 0; left = 0 }) (omega arith) in
    omega (arith, at, c.requires.reach)

pub overflow_add-offset : goal.overflow_add-offset
overflow_add-offset c =
    let at = count_at c.args.runs.now c.loop-run.run-index (record { first = 0; dumped = 0; left = 0 }) (omega arith) in
    omega (arith, at, c.loop-run.invariant.place, c.requires.fits)

pub loop-run-preserved : goal.loop-run-preserved
loop-run-preserved c =
    let at = count_at c.args.runs.now c.loop-run.run-index (record { first = 0; dumped = 0; left = 0 }) (omega arith) in
    record {
      whole = one_run c.loop-run.bytes.items c.push_load_header.new.bytes.items c.args.bytes.now.items c.args.runs.now c.args.runs.now c.loop-run.offset c.args.first c.loop-run.run-index _ (omega arith) c.in_ok-push_load_header.ensures c.loop-run.invariant.whole;
      place = omega (arith, at, c.loop-run.invariant.place);
    }

pub returns : goal.returns
returns c = no_run c.loop-run.bytes.items c.args.bytes.now.items c.args.runs.now c.args.runs.now c.loop-run.offset c.args.first c.loop-run.run-index (omega arith) c.loop-run.invariant.whole
