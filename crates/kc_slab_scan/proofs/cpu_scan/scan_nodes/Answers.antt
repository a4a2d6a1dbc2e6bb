use Rattle.std.proofs.Common.{rules, ◌∙◌}
use Rattle.kc_memory.specs.Stays.{stays_on}
use Rattle.kc_slab_page.specs.Caches.{caches_view}
use Rattle.kc_slab_scan.specs.CpuScans.{none_seen}
use Rattle.kc_slab_scan.proofs.CpuLemmas.{nodes_done, nodes_next}
use Rattle.kc_slab_scan.proofs.cpu_scan.scan_nodes.Goals as goal

pub loop-i-preserved : goal.loop-i-preserved
loop-i-preserved g c = record {
  far = nodes_next c.args.processors.now.shape.now c.args.pages.now.shape.now.objects (caches_view c.args.pages.now.caches.now) c.args.processors.now.all.now (g.S.Space.image c.args.space.now) none_seen c.args.nodes.now c.loop-i.i c.get-node.result.now c.loop-i.scan _
      c.get-node.ensures (rw c.loop-i.invariant.stays.same_image at c.in-Ok.ensures.exact) c.loop-i.invariant.far;
  stays = stays_on g.S.Space.image g.S.Space.files g.S.Space.through g.S.Space.most _ _ _ c.loop-i.invariant.stays c.in-Ok.ensures.stays;
  quiet = c.in-Ok.ensures.cause ∙ c.loop-i.invariant.quiet;
}

pub returns-clause-exact : goal.returns-clause-exact
returns-clause-exact g c =
    nodes_done c.args.processors.now.shape.now c.args.pages.now.shape.now.objects (caches_view c.args.pages.now.caches.now) c.args.processors.now.all.now (g.S.Space.image c.args.space.now) none_seen c.args.nodes.now c.loop-i.i c.loop-i.scan
    (search rules) c.loop-i.invariant.far
