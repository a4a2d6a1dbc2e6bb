use Rattle.std.proofs.Common.{arith}
use Rattle.kc_repair.proofs.Counts.{none-in, past-in}
use Rattle.kc_repair.proofs.elements.elements_in.Goals as goal

pub loop-i-preserved : goal.loop-i-preserved
loop-i-preserved c =
    past-in c.args.number c.args.audits.now c.args.counts.now c.loop-i.i _ (record { walks = 0; elements = 0 }) _
    (omega (arith, c.loop-i-test.true, c.min-i-end.ensures)) (omega (arith, c.loop-i-test.true, c.min-i-end.ensures)) c.if-audits-i.false c.loop-i.invariant

pub returns : goal.returns
returns c = none-in c.args.number c.args.audits.now c.args.counts.now c.loop-i.i _ (omega (arith, c.loop-i-test.false, c.min-i-end.ensures)) c.loop-i.invariant
