use Rattle.std.proofs.Common.{rules, ◌∙◌}
use Rattle.kc_memory.specs.Stays.{stays_on}
use Rattle.kc_slab_scan.proofs.CpuLemmas.{numbers_begin, numbers_done, numbers_next, numbers_stop}
use Rattle.kc_slab_scan.proofs.cpus.read_numbers.Goals as goal

pub loop-number-init : goal.loop-number-init
loop-number-init g c = record {
  far = rw c.new-cpus.ensures (numbers_begin (g.S.Space.image c.args.space.now) c.args.shape.now c.args.count);
  inside = search rules;
  stays = search rules;
  quiet = search rules;
}

pub loop-number-preserved : goal.loop-number-preserved
loop-number-preserved g c = record {
  far = numbers_next (g.S.Space.image c.args.space.now) c.args.shape.now c.args.count c.loop-number.number c.loop-number.cpus _
      (search rules) (rw c.loop-number.invariant.stays.same_image at c.in-Ok.ensures.exact) c.loop-number.invariant.far;
  inside = search rules;
  stays = stays_on g.S.Space.image g.S.Space.files g.S.Space.through g.S.Space.most _ _ _ c.loop-number.invariant.stays c.in-Ok.ensures.stays;
  quiet = c.in-Ok.ensures.cause ∙ c.loop-number.invariant.quiet;
}

pub returns-in-Err-clause-exact : goal.returns-in-Err-clause-exact
returns-in-Err-clause-exact g c =
    numbers_stop (g.S.Space.image c.args.space.now) c.args.shape.now c.args.count c.loop-number.number c.loop-number.cpus _ c.in-Err.stop
    (search rules) (rw c.loop-number.invariant.stays.same_image at c.in-Err.ensures.exact) c.loop-number.invariant.far

pub returns-clause-exact : goal.returns-clause-exact
returns-clause-exact g c =
    numbers_done (g.S.Space.image c.args.space.now) c.args.shape.now c.args.count c.loop-number.number c.loop-number.cpus (search rules) c.loop-number.invariant.far
