use Rattle.std.proofs.Common.{◌-◌, length}
use Rattle.kc_slab_scan.proofs.CpuLemmas.{Taking}
use Rattle.kc_slab_scan.proofs.cpu_list.take_all.Given as goal

abbrev pub invariant-loop-i : goal.invariant-loop-i
invariant-loop-i l = Taking l.fn.claims l.objects l.i l.claims

abbrev pub decreases-loop-i : goal.decreases-loop-i
decreases-loop-i l = length l.objects - l.i
