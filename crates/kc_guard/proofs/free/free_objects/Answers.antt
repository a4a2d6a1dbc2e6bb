use Rattle.std.proofs.Common.{rules}
use Rattle.kc_guard.proofs.GuardLemmas.{found_all, found_begin, found_next}
use Rattle.kc_guard.proofs.free.free_objects.Goals as goal

pub loop-i-init : goal.loop-i-init
loop-i-init c = rw c.new-addresses.ensures.empty (found_begin c.args.objects.now)

pub loop-i-preserved : goal.loop-i-preserved
loop-i-preserved c = found_next c.args.objects.now c.loop-i.i c.get.result.now c.loop-i.addresses.keys _ c.get.ensures c.in-Ok.ensures.updates.0 c.loop-i.invariant

pub returns : goal.returns
returns c = found_all c.args.objects.now c.loop-i.i c.loop-i.addresses.keys (search rules) c.loop-i.invariant
