use Rattle.std.proofs.Common.{rules, ◌∙◌}
use Rattle.kc_memory.specs.Stays.{stays_on}
use Rattle.kc_slab_page.specs.Frames.Frames.{frames_in}
use Rattle.kc_slab_page.specs.Caches.{caches_view}
use Rattle.kc_slab_scan.proofs.ScanLemmas.{frame_next, frames_begin, frames_done}
use Rattle.kc_slab_scan.proofs.scan.scan_run.Goals as goal

pub loop-number-init : goal.loop-number-init
loop-number-init g c = record {
  far = frames_begin (g.S.Space.image c.args.space.now) c.args.pages.now.shape.now (caches_view c.args.pages.now.caches.now) c.args.scan.now (frames_in c.args.run);
  stays = search rules;
  quiet = search rules;
}

pub loop-number-preserved : goal.loop-number-preserved
loop-number-preserved g c = record {
  far = frame_next (g.S.Space.image c.args.space.now) c.args.pages.now.shape.now (caches_view c.args.pages.now.caches.now) c.args.scan.now (frames_in c.args.run) c.loop-number.scan _ c.loop-number.number c.args.run.end
      (search rules) (rw c.loop-number.invariant.stays.same_image at c.in-Ok.ensures.exact) c.loop-number.invariant.far;
  stays = stays_on g.S.Space.image g.S.Space.files g.S.Space.through g.S.Space.most _ _ _ c.loop-number.invariant.stays c.in-Ok.ensures.stays;
  quiet = c.in-Ok.ensures.cause ∙ c.loop-number.invariant.quiet;
}

pub returns-clause-exact : goal.returns-clause-exact
returns-clause-exact g c =
    frames_done (g.S.Space.image c.args.space.now) c.args.pages.now.shape.now (caches_view c.args.pages.now.caches.now) c.args.scan.now (frames_in c.args.run) c.loop-number.scan c.loop-number.number c.args.run.end
    (search rules) c.loop-number.invariant.far
