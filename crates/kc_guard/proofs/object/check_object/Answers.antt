use Rattle.std.proofs.Common.{rules, ◌∙◌, Some}
use Rattle.std.specs.Prelude.{Ok, Err}
use Rattle.kc_memory.specs.Stays.{stays_on}
use Rattle.kc_guard.proofs.GuardLemmas.{runs_done, runs_end, runs_next}
use Rattle.kc_guard.proofs.object.check_object.Goals as goal

pub loop-i-preserved : goal.loop-i-preserved
loop-i-preserved g c = record {
  far = runs_next c.args.asked.now c.args.free c.args.object c.args.runs.now (g.S.Space.image c.args.space.now) c.loop-i.i c.get.result.now
      c.get.ensures (rw (c.loop-i.invariant.stays.same_image, c.in-Ok-None.field-0-is) at c.in-Ok-None.ensures.exact) c.loop-i.invariant.far;
  stays = stays_on g.S.Space.image g.S.Space.files g.S.Space.through g.S.Space.most _ _ _ c.loop-i.invariant.stays c.in-Ok-None.ensures.stays;
  quiet = c.in-Ok-None.ensures.cause ∙ c.loop-i.invariant.quiet;
}

pub returns-in-Ok-Some-clause-exact : goal.returns-in-Ok-Some-clause-exact
returns-in-Ok-Some-clause-exact g c =
    runs_end c.args.asked.now c.args.free c.args.object c.args.runs.now (g.S.Space.image c.args.space.now) c.loop-i.i c.get.result.now (Ok (Some c.in-Ok-Some.spoiled))
    c.get.ensures tt (rw (c.loop-i.invariant.stays.same_image, c.in-Ok-Some.field-0-is) at c.in-Ok-Some.ensures.exact) c.loop-i.invariant.far

pub returns-in-Err-clause-exact : goal.returns-in-Err-clause-exact
returns-in-Err-clause-exact g c =
    runs_end c.args.asked.now c.args.free c.args.object c.args.runs.now (g.S.Space.image c.args.space.now) c.loop-i.i c.get.result.now (Err c.in-Err.stop)
    c.get.ensures tt (rw c.loop-i.invariant.stays.same_image at c.in-Err.ensures.exact) c.loop-i.invariant.far

pub returns-clause-exact : goal.returns-clause-exact
returns-clause-exact g c =
    runs_done c.args.asked.now c.args.free c.args.object c.args.runs.now (g.S.Space.image c.args.space.now) c.loop-i.i (search rules) c.loop-i.invariant.far
