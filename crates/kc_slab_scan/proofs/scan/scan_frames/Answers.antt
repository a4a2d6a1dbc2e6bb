use Rattle.std.proofs.Common.{rules, ◌∙◌, []}
use Rattle.kc_memory.specs.Stays.{stays_on}
use Rattle.kc_slab_page.specs.Frames.Frames.{frames_of}
use Rattle.kc_slab_page.specs.Caches.{caches_view}
use Rattle.kc_slab_scan.specs.declared.totals.Scan.{Scan}
use Rattle.kc_slab_scan.specs.Scans.{none_seen}
use Rattle.kc_slab_scan.proofs.ScanLemmas.{run_next, runs_done}
use Rattle.kc_slab_scan.proofs.scan.scan_frames.Goals as goal

abbrev none : Scan
none = record { totals = none_seen; broken = [] }

pub loop-i-preserved : goal.loop-i-preserved
loop-i-preserved g c = record {
  far = run_next (g.S.Space.image c.args.space.now) c.args.pages.now.shape.now (caches_view c.args.pages.now.caches.now) none (frames_of c.args.runs.now) c.loop-i.scan _ c.args.runs.now c.loop-i.i _
      (search rules) (rw c.loop-i.invariant.stays.same_image at c.in-Ok.ensures.exact) c.loop-i.invariant.far;
  stays = stays_on g.S.Space.image g.S.Space.files g.S.Space.through g.S.Space.most _ _ _ c.loop-i.invariant.stays c.in-Ok.ensures.stays;
  quiet = c.in-Ok.ensures.cause ∙ c.loop-i.invariant.quiet;
}

pub returns-clause-exact : goal.returns-clause-exact
returns-clause-exact g c =
    runs_done (g.S.Space.image c.args.space.now) c.args.pages.now.shape.now (caches_view c.args.pages.now.caches.now) none (frames_of c.args.runs.now) c.loop-i.scan c.args.runs.now c.loop-i.i
    (search rules) c.loop-i.invariant.far
