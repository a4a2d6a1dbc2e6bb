use Rattle.std.proofs.Common.{ap, arith, length, take}
use Rattle.kc_phys.specs.Patch.Changed.{laid}
use Rattle.kc_phys.proofs.PatchLemmas.Laying.{lays_all, lays_more}
use Rattle.kc_phys.proofs.patch.lay.lay.Goals as goal

pub loop-i-init : goal.loop-i-init
unfolding laid
loop-i-init c = λ file is. is

pub loop-i-preserved : goal.loop-i-preserved
loop-i-preserved c = λ file is.
    lays_more c.to_le_bytes-bytes.result file c.loop-i.buffer c.put.new.buffer (length c.args.buffer.now) c.args.start c.args.change.now.off c.loop-i.i (omega (arith, ap length c.to_le_bytes-bytes.ensures)) c.loop-i.auto.buffer
    (c.loop-i.invariant file is) (c.put.ensures (laid c.args.change.now.off (take c.loop-i.i c.to_le_bytes-bytes.result) file))

pub returns : goal.returns
returns c = λ file is.
    lays_all c.to_le_bytes-bytes.result file c.loop-i.buffer (length c.args.buffer.now) c.args.start c.args.change.now.off c.args.change.now.value c.loop-i.i c.to_le_bytes-bytes.ensures
    (omega (arith, ap length c.to_le_bytes-bytes.ensures)) (c.loop-i.invariant file is)
