use Rattle.std.proofs.Common.{rules, ◌∙◌, Some}
use Rattle.std.specs.Prelude.{Ok, Err}
use Rattle.kc_memory.specs.Stays.{stays_on}
use Rattle.kc_guard.specs.Objects.{looked_up}
use Rattle.kc_guard.proofs.GuardLemmas.{objects_begin, objects_done, objects_end, objects_next}
use Rattle.kc_guard.proofs.objects.check_each.Goals as goal

pub loop-number-init : goal.loop-number-init
loop-number-init g c = record {
  far = objects_begin c.args.asked.now c.args.runs.now c.args.grid (looked_up c.args.free.now) (g.S.Space.image c.args.space.now);
  stays = search rules;
  quiet = search rules;
}

pub loop-number-preserved : goal.loop-number-preserved
loop-number-preserved g c = record {
  far = objects_next c.args.asked.now c.args.runs.now c.args.grid (looked_up c.args.free.now) (g.S.Space.image c.args.space.now) c.loop-number.number
      (search rules) (rw (c.loop-number.invariant.stays.same_image, c.has.ensures, c.object_at-object.ensures, c.in-Ok-None.field-0-is) at c.in-Ok-None.ensures.exact) c.loop-number.invariant.far;
  stays = stays_on g.S.Space.image g.S.Space.files g.S.Space.through g.S.Space.most _ _ _ c.loop-number.invariant.stays c.in-Ok-None.ensures.stays;
  quiet = c.in-Ok-None.ensures.cause ∙ c.loop-number.invariant.quiet;
}

pub returns-in-Ok-Some-clause-exact : goal.returns-in-Ok-Some-clause-exact
returns-in-Ok-Some-clause-exact g c =
    objects_end c.args.asked.now c.args.runs.now c.args.grid (looked_up c.args.free.now) (g.S.Space.image c.args.space.now) c.loop-number.number (Ok (Some c.in-Ok-Some.spoiled))
    (search rules) tt (rw (c.loop-number.invariant.stays.same_image, c.has.ensures, c.object_at-object.ensures, c.in-Ok-Some.field-0-is) at c.in-Ok-Some.ensures.exact) c.loop-number.invariant.far

pub returns-in-Err-clause-exact : goal.returns-in-Err-clause-exact
returns-in-Err-clause-exact g c =
    objects_end c.args.asked.now c.args.runs.now c.args.grid (looked_up c.args.free.now) (g.S.Space.image c.args.space.now) c.loop-number.number (Err c.in-Err.stop)
    (search rules) tt (rw (c.loop-number.invariant.stays.same_image, c.has.ensures, c.object_at-object.ensures) at c.in-Err.ensures.exact) c.loop-number.invariant.far

pub returns-clause-exact : goal.returns-clause-exact
returns-clause-exact g c =
    objects_done c.args.asked.now c.args.runs.now c.args.grid (looked_up c.args.free.now) (g.S.Space.image c.args.space.now) c.loop-number.number (search rules) c.loop-number.invariant.far
