use Rattle.std.proofs.Common.{rules, ◌∙◌}
use Rattle.kc_memory.specs.Stays.{stays_on}
use Rattle.kc_slab_scan.proofs.CpuLemmas.{cpus_begin, cpus_done, cpus_next}
use Rattle.kc_slab_scan.proofs.cpu_scan.scan_cache.Goals as goal

pub loop-i-init : goal.loop-i-init
loop-i-init g c = record {
  far = cpus_begin c.args.processors.now.shape.now c.args.cache.now.shape.now c.args.cache.now.bases.now c.args.cache.now.objects.now c.args.cache.now.at (g.S.Space.image c.args.space.now) c.args.scan.now c.args.processors.now.all.now;
  stays = search rules;
  quiet = search rules;
}

pub loop-i-preserved : goal.loop-i-preserved
loop-i-preserved g c = record {
  far = cpus_next c.args.processors.now.shape.now c.args.cache.now.shape.now c.args.cache.now.bases.now c.args.cache.now.objects.now c.args.cache.now.at (g.S.Space.image c.args.space.now) c.args.scan.now c.args.processors.now.all.now c.loop-i.i c.get-cpu.result.now c.loop-i.scan _
      c.get-cpu.ensures (rw c.loop-i.invariant.stays.same_image at c.in-Ok.ensures.exact) c.loop-i.invariant.far;
  stays = stays_on g.S.Space.image g.S.Space.files g.S.Space.through g.S.Space.most _ _ _ c.loop-i.invariant.stays c.in-Ok.ensures.stays;
  quiet = c.in-Ok.ensures.cause ∙ c.loop-i.invariant.quiet;
}

pub returns-clause-exact : goal.returns-clause-exact
returns-clause-exact g c =
    cpus_done c.args.processors.now.shape.now c.args.cache.now.shape.now c.args.cache.now.bases.now c.args.cache.now.objects.now c.args.cache.now.at (g.S.Space.image c.args.space.now) c.args.scan.now c.args.processors.now.all.now c.loop-i.i c.loop-i.scan
    (search rules) c.loop-i.invariant.far
