use Rattle.std.proofs.Common.{rules, sym, ◌∙◌}
use Rattle.kc_memory.specs.Stays.{stays_on}
use Rattle.kc_guard.proofs.GuardLemmas.{looking_done, looking_found, looking_next, looking_stop}
use Rattle.kc_guard.proofs.byte.find_other.Goals as goal

pub loop-left-preserved : goal.loop-left-preserved
loop-left-preserved g c = record {
  far = looking_next c.args.asked.now c.args.byte c.args.count c.args.from (g.S.Space.image c.args.space.now) c.loop-left.left c.loop-left.at c.in-Ok.number
      (search rules) (sym c.is_byte.ensures ∙ c.if-is_byte.true) (rw c.loop-left.invariant.stays.same_image at c.in-Ok.ensures.exact) c.loop-left.invariant.far;
  stays = stays_on g.S.Space.image g.S.Space.files g.S.Space.through g.S.Space.most _ _ _ c.loop-left.invariant.stays c.in-Ok.ensures.stays;
  quiet = c.in-Ok.ensures.cause ∙ c.loop-left.invariant.quiet;
}

pub returns-else-is_byte-clause-exact : goal.returns-else-is_byte-clause-exact
returns-else-is_byte-clause-exact g c =
    looking_found c.args.asked.now c.args.byte c.args.count c.args.from (g.S.Space.image c.args.space.now) c.loop-left.left c.loop-left.at c.in-Ok.number _
    (search rules) c.first_place-place.ensures (sym c.is_byte.ensures ∙ c.if-is_byte.false) (rw c.loop-left.invariant.stays.same_image at c.in-Ok.ensures.exact) c.loop-left.invariant.far

pub returns-in-Err-clause-exact : goal.returns-in-Err-clause-exact
returns-in-Err-clause-exact g c =
    looking_stop c.args.asked.now c.args.byte c.args.count c.args.from (g.S.Space.image c.args.space.now) c.loop-left.left c.loop-left.at c.in-Err.stop
    (search rules) (rw c.loop-left.invariant.stays.same_image at c.in-Err.ensures.exact) c.loop-left.invariant.far

pub returns-clause-exact : goal.returns-clause-exact
returns-clause-exact g c =
    looking_done c.args.asked.now c.args.byte c.args.count c.args.from (g.S.Space.image c.args.space.now) c.loop-left.left c.loop-left.at (search rules) c.loop-left.invariant.far
