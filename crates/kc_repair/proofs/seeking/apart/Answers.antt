use Rattle.std.proofs.Common.{arith}
use Rattle.kc_repair.specs.Repairs.{is_apart}
use Rattle.kc_repair.proofs.Changing.{kept-all, kept-more}
use Rattle.kc_repair.proofs.seeking.apart.Goals as goal

pub loop-i-preserved : goal.loop-i-preserved
loop-i-preserved c =
    kept-more (is_apart c.args.earlier.now) c.args.suspects.now c.loop-i.i _ c.loop-i.kept _ _ (omega arith) c.loop-i.invariant c.is_apart-keeps.ensures c.in_ok-push_if.ensures

pub returns : goal.returns
returns c = kept-all (is_apart c.args.earlier.now) c.args.suspects.now c.loop-i.i c.loop-i.kept (omega arith) c.loop-i.invariant
