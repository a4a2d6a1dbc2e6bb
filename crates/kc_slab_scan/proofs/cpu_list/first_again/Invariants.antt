use Rattle.std.proofs.Common.{◌-◌, length}
use Rattle.kc_slab_scan.proofs.CpuLemmas.{Seeking}
use Rattle.kc_slab_scan.proofs.cpu_list.first_again.Given as goal

abbrev pub invariant-loop-i : goal.invariant-loop-i
invariant-loop-i l = Seeking l.fn.claims l.objects l.i l.claims

abbrev pub decreases-loop-i : goal.decreases-loop-i
decreases-loop-i l = length l.objects - l.i
