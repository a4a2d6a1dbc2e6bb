use Rattle.std.proofs.Common.{rules, ◌∙◌, Some}
use Rattle.std.specs.Prelude.{Ok, Err}
use Rattle.kc_memory.specs.Stays.{stays_on}
use Rattle.kc_slab_scan.proofs.CpuObjectLemmas.{spots_done, spots_end, spots_next}
use Rattle.kc_slab_scan.proofs.cpu_object.spot_from.Goals as goal

pub loop-i-preserved : goal.loop-i-preserved
loop-i-preserved g c = record {
  far = spots_next c.args.shape.now c.args.object.now c.args.cpus.now (g.S.Space.image c.args.space.now) c.loop-i.i c.get-cpu.result.now
      c.get-cpu.ensures (rw (c.loop-i.invariant.stays.same_image, c.in-Ok-None.field-0-is) at c.in-Ok-None.ensures.exact) c.loop-i.invariant.far;
  stays = stays_on g.S.Space.image g.S.Space.files g.S.Space.through g.S.Space.most _ _ _ c.loop-i.invariant.stays c.in-Ok-None.ensures.stays;
  quiet = c.in-Ok-None.ensures.cause ∙ c.loop-i.invariant.quiet;
}

pub returns-in-Ok-Some-clause-exact : goal.returns-in-Ok-Some-clause-exact
returns-in-Ok-Some-clause-exact g c =
    spots_end c.args.shape.now c.args.object.now c.args.cpus.now (g.S.Space.image c.args.space.now) c.loop-i.i c.get-cpu.result.now (Ok (Some c.in-Ok-Some.spot))
    c.get-cpu.ensures tt (rw (c.loop-i.invariant.stays.same_image, c.in-Ok-Some.field-0-is) at c.in-Ok-Some.ensures.exact) c.loop-i.invariant.far

pub returns-in-Err-clause-exact : goal.returns-in-Err-clause-exact
returns-in-Err-clause-exact g c =
    spots_end c.args.shape.now c.args.object.now c.args.cpus.now (g.S.Space.image c.args.space.now) c.loop-i.i c.get-cpu.result.now (Err c.in-Err.stop)
    c.get-cpu.ensures tt (rw c.loop-i.invariant.stays.same_image at c.in-Err.ensures.exact) c.loop-i.invariant.far

pub returns-clause-exact : goal.returns-clause-exact
returns-clause-exact g c =
    spots_done c.args.shape.now c.args.object.now c.args.cpus.now (g.S.Space.image c.args.space.now) c.loop-i.i (search rules) c.loop-i.invariant.far
