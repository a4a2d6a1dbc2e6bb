use Rattle.std.proofs.Common.{◌≡◌, rules, Err, ◌++◌, arith}
use Rattle.kc_kdump.specs.Frames.{frames_by}
use Rattle.kc_kdump.specs.Walk.{runs_after}
use Rattle.kc_kdump.proofs.WalkLemmas.{bits_many, bits_more, bits_none, many_map}
use Rattle.kc_kdump.proofs.walk.Walk.take_bits.Goals as goal

pub returns-in_err-take_frame-clause-many : goal.returns-in_err-take_frame-clause-many
returns-in_err-take_frame-clause-many c =
    let ended : c.from_residual.result ≡ Err c.in_err-take_frame.field-0.0 = search rules in
    rw ended (many_map (Unit {0}) (Unit {0}) c.in_err-take_frame.field-0.0 _ _
    (bits_many c.loop-left.self c.of.result c.loop-left.left c.loop-left.m c.loop-left.d
    (λ rest. runs_after c.args.self.now (frames_by c.args.bits c.args.memory c.args.dumped ++ rest))
    (omega arith) c.of.ensures c.loop-left.invariant.runs)
    c.in_err-take_frame.ensures.many)

pub loop-left-preserved : goal.loop-left-preserved
loop-left-preserved c = record {
  runs = bits_more c.take_frame.new.self c.loop-left.self c.of.result c.loop-left.left c.loop-left.m c.loop-left.d
      (λ rest. runs_after c.args.self.now (frames_by c.args.bits c.args.memory c.args.dumped ++ rest))
      (omega arith) c.of.ensures c.in_ok-take_frame.ensures.runs c.loop-left.invariant.runs;
  end = omega (arith, c.in_ok-take_frame.ensures.end, c.loop-left.invariant.end);
}

pub returns-clause-runs : goal.returns-clause-runs
returns-clause-runs c = bits_none c.loop-left.self c.loop-left.left c.loop-left.m c.loop-left.d
    (λ rest. runs_after c.args.self.now (frames_by c.args.bits c.args.memory c.args.dumped ++ rest))
    (omega arith) c.loop-left.invariant.runs
