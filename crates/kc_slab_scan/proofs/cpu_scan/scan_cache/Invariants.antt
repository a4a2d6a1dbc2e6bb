use Rattle.std.proofs.Common.{◌≡◌, ◌-◌, length}
use Rattle.kc_memory.specs.Stays.{SpaceStays}
use Rattle.kc_slab_scan.proofs.CpuLemmas.{OfCpus}
use Rattle.kc_slab_scan.proofs.cpu_scan.scan_cache.Given as goal

abbrev pub invariant-loop-i : goal.invariant-loop-i
invariant-loop-i g l = record {
  far : OfCpus l.processors.shape.now l.cache.shape.now l.cache.bases.now l.cache.objects.now l.cache.at (g.S.Space.image l.fn.space) l.fn.scan l.processors.all.now l.i l.scan;
  stays : SpaceStays g.S.Space.image g.S.Space.files g.S.Space.through g.S.Space.most l.fn.space l.space;
  quiet : g.S.Space.faults l.space ≡ g.S.Space.faults l.fn.space;
}

abbrev pub decreases-loop-i : goal.decreases-loop-i
decreases-loop-i g l = length l.processors.all.now - l.i
