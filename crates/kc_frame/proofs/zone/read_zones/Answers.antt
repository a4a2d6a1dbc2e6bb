use Rattle.std.proofs.Common.{rules, ◌∙◌}
use Rattle.kc_memory.specs.Stays.{stays_on}
use Rattle.kc_frame.proofs.ZoneLemmas.{places_begin, places_done, places_found, places_next}
use Rattle.kc_frame.proofs.zone.read_zones.Goals as goal

pub loop-place-init : goal.loop-place-init
loop-place-init g c = record {
  far = places_begin c.args.shape.now c.args.page (g.S.Space.image c.args.space.now);
  stays = search rules;
  quiet = search rules;
}

pub returns-in-Ok-Some-clause-exact : goal.returns-in-Ok-Some-clause-exact
returns-in-Ok-Some-clause-exact g c =
    places_found c.args.shape.now c.args.page (g.S.Space.image c.args.space.now) c.loop-place.place c.in-Ok-Some.name (search rules)
    (rw (c.loop-place.invariant.stays.same_image, c.in-Ok-Some.field-0-is) at c.in-Ok-Some.ensures.exact) c.loop-place.invariant.far

pub loop-place-preserved : goal.loop-place-preserved
loop-place-preserved g c = record {
  far = places_next c.args.shape.now c.args.page (g.S.Space.image c.args.space.now) c.loop-place.place (search rules)
      (rw (c.loop-place.invariant.stays.same_image, c.in-Ok-None.field-0-is) at c.in-Ok-None.ensures.exact) c.loop-place.invariant.far;
  stays = stays_on g.S.Space.image g.S.Space.files g.S.Space.through g.S.Space.most _ _ _ c.loop-place.invariant.stays c.in-Ok-None.ensures.stays;
  quiet = c.in-Ok-None.ensures.cause ∙ c.loop-place.invariant.quiet;
}

pub returns-clause-exact : goal.returns-clause-exact
returns-clause-exact g c =
    places_done c.args.shape.now c.args.page (g.S.Space.image c.args.space.now) c.loop-place.place (search rules) c.loop-place.invariant.far
