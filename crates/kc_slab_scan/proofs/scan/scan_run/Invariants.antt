use Rattle.std.proofs.Common.{◌≡◌, ◌-◌}
use Rattle.kc_memory.specs.Stays.{SpaceStays}
use Rattle.kc_slab_page.specs.Frames.Frames.{frames_in}
use Rattle.kc_slab_page.specs.Caches.{caches_view}
use Rattle.kc_slab_scan.proofs.ScanLemmas.{Far, rest_of}
use Rattle.kc_slab_scan.proofs.scan.scan_run.Given as goal

abbrev pub invariant-loop-number : goal.invariant-loop-number
invariant-loop-number g l = record {
  far : Far (g.S.Space.image l.fn.space) l.pages.shape.now (caches_view l.pages.caches.now) l.fn.scan (frames_in l.run) l.scan (rest_of l.number l.run.end);
  stays : SpaceStays g.S.Space.image g.S.Space.files g.S.Space.through g.S.Space.most l.fn.space l.space;
  quiet : g.S.Space.faults l.space ≡ g.S.Space.faults l.fn.space;
}

abbrev pub decreases-loop-number : goal.decreases-loop-number
decreases-loop-number g l = l.run.end - l.number
