use Rattle.std.proofs.Common.{◌≡◌, ◌-◌, length}
use Rattle.kc_memory.specs.Stays.{SpaceStays}
use Rattle.kc_slab_page.specs.Caches.{caches_view}
use Rattle.kc_slab_scan.specs.CpuScans.{none_seen}
use Rattle.kc_slab_scan.proofs.CpuLemmas.{OfNodes}
use Rattle.kc_slab_scan.proofs.cpu_scan.scan_nodes.Given as goal

abbrev pub invariant-loop-i : goal.invariant-loop-i
invariant-loop-i g l = record {
  far : OfNodes l.processors.shape.now l.pages.shape.now.objects (caches_view l.pages.caches.now) l.processors.all.now (g.S.Space.image l.fn.space) none_seen l.nodes l.i l.scan;
  stays : SpaceStays g.S.Space.image g.S.Space.files g.S.Space.through g.S.Space.most l.fn.space l.space;
  quiet : g.S.Space.faults l.space ≡ g.S.Space.faults l.fn.space;
}

abbrev pub decreases-loop-i : goal.decreases-loop-i
decreases-loop-i g l = length l.nodes - l.i
