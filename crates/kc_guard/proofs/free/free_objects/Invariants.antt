use Rattle.std.proofs.Common.{◌-◌, length}
use Rattle.kc_guard.proofs.GuardLemmas.{Found}
use Rattle.kc_guard.proofs.free.free_objects.Given as goal

abbrev pub invariant-loop-i : goal.invariant-loop-i
invariant-loop-i l = Found l.objects l.i l.addresses.keys

abbrev pub decreases-loop-i : goal.decreases-loop-i
decreases-loop-i l = length l.objects - l.i
