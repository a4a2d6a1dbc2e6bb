use Rattle.std.proofs.Common.{◌≡◌, ◌-◌, [], drop, length}
use Rattle.kc_memory.specs.Stays.{SpaceStays}
use Rattle.kc_slab_page.specs.Frames.Frames.{frames_of}
use Rattle.kc_slab_page.specs.Caches.{caches_view}
use Rattle.kc_slab_scan.specs.Scans.{none_seen}
use Rattle.kc_slab_scan.proofs.ScanLemmas.{Far}
use Rattle.kc_slab_scan.proofs.scan.scan_frames.Given as goal

abbrev pub invariant-loop-i : goal.invariant-loop-i
invariant-loop-i g l = record {
  far : Far (g.S.Space.image l.fn.space) l.pages.shape.now (caches_view l.pages.caches.now) (record { totals = none_seen; broken = [] }) (frames_of l.runs) l.scan (frames_of (drop l.i l.runs));
  stays : SpaceStays g.S.Space.image g.S.Space.files g.S.Space.through g.S.Space.most l.fn.space l.space;
  quiet : g.S.Space.faults l.space ≡ g.S.Space.faults l.fn.space;
}

abbrev pub decreases-loop-i : goal.decreases-loop-i
decreases-loop-i g l = length l.runs - l.i
