use Rattle.std.proofs.Common.{List, ℕ, rules, ◌∙◌, ◌∷◌, [], ap, length, length-append}
use Rattle.kc_memory.specs.Bits.{Number}
use Rattle.kc_memory.specs.Stays.{stays_on}
use Rattle.kc_found.specs.FreeLists.{free_first}
use Rattle.kc_laws.specs.Chains.{site_steps, next_steps}
use Rattle.kc_slub.proofs.Spending.{two_more, two_spare}
use Rattle.kc_slub.proofs.FreeWalk.{asked_at, frees, free_begins, free_goes, free_goes_broken, free_ends, free_finite, free_none}
use Rattle.kc_slub.proofs.free.free_walk.Goals as goal

pub loop-led-init : goal.loop-led-init
loop-led-init g c = record {
  reaches = rw (c.new-claims.ensures, c.new-walked.ensures, c.low_word.ensures) (free_begins (g.S.Space.image c.args.space.now) c.args.grid.now (asked_at c.args.audit c.args.start) (free_first c.args.first));
  stays = search rules;
  quiet = search rules;
  fits = search rules;
  steps = search rules;
}

pub returns-in-Err-clause-walk : goal.returns-in-Err-clause-walk
returns-in-Err-clause-walk g c =
    free_goes_broken (λ (n : Number). c.enter_object.new.claims) _ (g.S.Space.image c.args.space.now) c.args.grid.now (asked_at c.args.audit c.args.start) (free_first c.args.first) c.loop-led.claims c.loop-led.walked c.loop-led.led c.in-Err.stop
    c.loop-led.invariant.reaches (search rules) (rw c.loop-led.invariant.stays.same_image at c.in-Err.ensures.site)

pub returns-in-Err-clause-none : goal.returns-in-Err-clause-none
returns-in-Err-clause-none g c = free_none (λ (xs : List ℕ). xs) (g.S.Space.image c.args.space.now) c.args.grid.now (asked_at c.args.audit c.args.start) (free_first c.args.first) c.in-Err.stop c.requires.some (returns-in-Err-clause-walk g c)

pub returns-in-Err-clause-bound : goal.returns-in-Err-clause-bound
returns-in-Err-clause-bound g c =
    next_steps (frees c.args.grid.now (asked_at c.args.audit c.args.start) (free_first c.args.first)) (g.S.Space.image c.args.space.now) c.loop-led.claims c.loop-led.walked c.loop-led.led (g.S.Space.most c.args.space.now) c.args.steps.now c.loop-led.steps _
    c.loop-led.invariant.reaches (two_spare _ _ _ _ c.loop-led.invariant.steps) (rw c.loop-led.invariant.stays.same_most at c.in-Err.ensures.steps)

pub returns-in_err-push_node-clause-bound : goal.returns-in_err-push_node-clause-bound
returns-in_err-push_node-clause-bound g c =
    next_steps (frees c.args.grid.now (asked_at c.args.audit c.args.start) (free_first c.args.first)) (g.S.Space.image c.args.space.now) c.loop-led.claims c.loop-led.walked c.loop-led.led (g.S.Space.most c.args.space.now) c.args.steps.now c.loop-led.steps _
    c.loop-led.invariant.reaches (two_spare _ _ _ _ c.loop-led.invariant.steps) (rw c.loop-led.invariant.stays.same_most at c.in-Ok.ensures.steps)

pub loop-led-preserved : goal.loop-led-preserved
loop-led-preserved g c = record {
  reaches = rw (c.in_ok-push_node.ensures.added, c.free_next-led.ensures) (free_goes (λ (n : Number). c.enter_object.new.claims) (g.S.Space.image c.args.space.now) c.args.grid.now (asked_at c.args.audit c.args.start) (free_first c.args.first) c.loop-led.claims c.loop-led.walked c.loop-led.led c.in-Ok.number c.in-Ok.number
      c.loop-led.invariant.reaches (search rules) (rw c.loop-led.invariant.stays.same_image at c.in-Ok.ensures.number) (rw c.loop-led.invariant.stays.same_image at c.in-Ok.ensures.site));
  stays = stays_on g.S.Space.image g.S.Space.files g.S.Space.through g.S.Space.most _ _ _ c.loop-led.invariant.stays c.in-Ok.ensures.stays;
  quiet = c.in-Ok.ensures.cause ∙ c.loop-led.invariant.quiet;
  fits = search rules;
  steps = rw (ap length c.in_ok-push_node.ensures.added ∙ length-append c.loop-led.walked (c.loop-led.led.to ∷ []))
      (two_more (g.S.Space.most c.args.space.now) (length c.loop-led.walked) c.args.steps.now c.loop-led.steps _ c.loop-led.invariant.steps (rw c.loop-led.invariant.stays.same_most at c.in-Ok.ensures.steps));
}

pub returns-clause-walk : goal.returns-clause-walk
returns-clause-walk g c =
    free_ends _ (g.S.Space.image c.args.space.now) c.args.grid.now (asked_at c.args.audit c.args.start) (free_first c.args.first) c.loop-led.claims c.loop-led.walked c.loop-led.led
    c.loop-led.invariant.reaches (search rules)

pub returns-clause-finite : goal.returns-clause-finite
returns-clause-finite g c = free_finite (λ (xs : List ℕ). xs) (g.S.Space.image c.args.space.now) c.args.grid.now (asked_at c.args.audit c.args.start) (free_first c.args.first) c.loop-led.walked (returns-clause-walk g c)

pub returns-clause-bound : goal.returns-clause-bound
returns-clause-bound g c =
    site_steps (frees c.args.grid.now (asked_at c.args.audit c.args.start) (free_first c.args.first)) (g.S.Space.image c.args.space.now) c.loop-led.claims c.loop-led.walked c.loop-led.led (g.S.Space.most c.args.space.now) c.args.steps.now _ c.loop-led.invariant.reaches (two_spare _ _ _ _ c.loop-led.invariant.steps)
