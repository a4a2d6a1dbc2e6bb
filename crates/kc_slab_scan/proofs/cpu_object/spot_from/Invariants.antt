use Rattle.std.proofs.Common.{◌≡◌, ◌-◌, length}
use Rattle.kc_memory.specs.Stays.{SpaceStays}
use Rattle.kc_slab_scan.proofs.CpuObjectLemmas.{OfCpus}
use Rattle.kc_slab_scan.proofs.cpu_object.spot_from.Given as goal

abbrev pub invariant-loop-i : goal.invariant-loop-i
invariant-loop-i g l = record {
  far : OfCpus l.shape l.object l.cpus (g.S.Space.image l.fn.space) l.i;
  stays : SpaceStays g.S.Space.image g.S.Space.files g.S.Space.through g.S.Space.most l.fn.space l.space;
  quiet : g.S.Space.faults l.space ≡ g.S.Space.faults l.fn.space;
}

abbrev pub decreases-loop-i : goal.decreases-loop-i
decreases-loop-i g l = length l.cpus - l.i
