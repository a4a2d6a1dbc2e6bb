use Rattle.std.proofs.Common.{◌≡◌, rules, Err, ◌++◌, take, arith}
use Rattle.kc_kdump.specs.Frames.{all_frames}
use Rattle.kc_kdump.specs.Walk.{runs_after}
use Rattle.kc_kdump.proofs.WalkLemmas.{bytes_many, bytes_more, bytes_none, many_map}
use Rattle.kc_kdump.proofs.walk.Walk.take_bytes.Goals as goal

pub returns-in_err-take_some-clause-many : goal.returns-in_err-take_some-clause-many
returns-in_err-take_some-clause-many c =
    let ended : c.from_residual.result ≡ Err c.in_err-take_some.field-0.0 = search rules in
    rw ended (many_map (Unit {0}) (Unit {0}) c.in_err-take_some.field-0.0 _ _
    (bytes_many c.loop-i.self c.min-bits.result c.loop-i.left c.loop-i.i c.args.memory.now c.args.dumped.now
    (λ rest. runs_after c.args.self.now (take c.args.most (all_frames c.args.memory.now c.args.dumped.now) ++ rest))
    c.min-bits.ensures (omega arith) c.requires.same c.loop-i.invariant.runs)
    c.in_err-take_some.ensures.many)

pub loop-i-preserved : goal.loop-i-preserved
loop-i-preserved c = record {
  runs = bytes_more c.take_some.new.self c.loop-i.self c.min-bits.result c.loop-i.left c.loop-i.i c.args.memory.now c.args.dumped.now
      (λ rest. runs_after c.args.self.now (take c.args.most (all_frames c.args.memory.now c.args.dumped.now) ++ rest))
      c.min-bits.ensures (omega arith) c.requires.same c.in_ok-take_some.ensures.runs c.loop-i.invariant.runs;
  end = omega (arith, c.in_ok-take_some.ensures.end, c.loop-i.invariant.end, c.min-bits.ensures);
  left = omega (arith, c.loop-i.invariant.left, c.min-bits.ensures);
}

pub returns-clause-runs : goal.returns-clause-runs
returns-clause-runs c = bytes_none c.loop-i.self c.loop-i.left c.loop-i.i c.args.memory.now c.args.dumped.now
    (λ rest. runs_after c.args.self.now (take c.args.most (all_frames c.args.memory.now c.args.dumped.now) ++ rest))
    (omega arith) c.loop-i.invariant.runs
