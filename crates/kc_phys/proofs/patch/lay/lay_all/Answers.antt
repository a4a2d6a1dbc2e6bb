use Rattle.std.proofs.Common.{arith, length, take}
use Rattle.kc_phys.specs.Patch.Changed.{changed_all}
use Rattle.kc_phys.proofs.PatchLemmas.Laying.{changes_all, changes_more}
use Rattle.kc_phys.proofs.patch.lay.lay_all.Goals as goal

pub loop-i-init : goal.loop-i-init
loop-i-init c = λ file is. is

pub loop-i-preserved : goal.loop-i-preserved
loop-i-preserved c = λ file is.
    changes_more c.args.changes.now file c.loop-i.buffer c.lay.new.buffer (length c.args.buffer.now) c.args.start c.loop-i.i _ (omega arith) c.loop-i.auto.buffer
    (c.loop-i.invariant file is) (c.lay.ensures (changed_all (take c.loop-i.i c.args.changes.now) file))

pub returns : goal.returns
returns c = λ file is.
    changes_all c.args.changes.now file c.loop-i.buffer (length c.args.buffer.now) c.args.start c.loop-i.i (omega arith) (c.loop-i.invariant file is)
