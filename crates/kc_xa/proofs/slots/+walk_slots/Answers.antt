use Rattle.std.proofs.Common.{arith, ◌≡◌, ◌∙◌, ◌+◌, ◌≤◌, length}
use Rattle.std.proofs.Math.ListN.{drop_of_length-le}
use Rattle.kc_xa.proofs.Going.{goes_on, goes_below, goes_stops, goes_stops_below, goes_ends}
use Rattle.kc_xa.proofs.SlotWords.{next_slot}
use Rattle.kc_xa.proofs.Spending.{pays_below, spent_stop, spent_below, spent_end}
use Rattle.kc_xa.proofs.Staying.{then_stays}
use Rattle.kc_xa.proofs.slots.+walk_slots.Goals as goal

pub loop-i-preserved-in-Ok-None : goal.loop-i-preserved-in-Ok-None
loop-i-preserved-in-Ok-None g t c =
    let same = rw c.in-Ok-None.field-0-is at c.in-Ok-None.ensures.none in (
      goes_on (g.S.Space.image c.args.space.now) c.args.pass.now.shape c.args.pass.now.asked c.args.node.now c.loop-i.i _ c.args.claims.now c.loop-i.claims c.enter_slot.new.claims c.args.walked.now c.loop-i.walked c.enter_slot.new.walked
          (next_slot c.as_slice-word-items.result.now c.args.node.now.slots c.loop-i.i c.as_slice-word-items.ensures c.loop-i-test.true) (rw (c.loop-i.invariant.1.same_image, c.in-Ok-None.field-0-is) at c.in-Ok-None.ensures.enters) c.loop-i.invariant.0,
      then_stays g.S.Space.image g.S.Space.files g.S.Space.through g.S.Space.most c.args.space.now c.loop-i.space _ c.loop-i.invariant.1 c.in-Ok-None.ensures.stays,
      c.in-Ok-None.ensures.cause ∙ c.loop-i.invariant.2,
      rw same c.loop-i.invariant.3,
      (let still : c.enter_slot.new.steps ≤ c.loop-i.steps = rw c.in-Ok-None.field-0-is at c.in-Ok-None.ensures.still in rw same (omega (arith, still, c.loop-i.invariant.4))),
    )

pub returns-in-Err-clause-walks : goal.returns-in-Err-clause-walks
returns-in-Err-clause-walks g t c =
    goes_stops (g.S.Space.image c.args.space.now) c.args.pass.now.shape c.args.pass.now.asked c.args.node.now c.loop-i.i _ c.args.claims.now c.loop-i.claims c.enter_slot.new.claims c.enter_slot.new.claims c.args.walked.now c.loop-i.walked c.enter_slot.new.walked c.enter_slot.new.walked c.in-Err.stop
    (next_slot c.as_slice-word-items.result.now c.args.node.now.slots c.loop-i.i c.as_slice-word-items.ensures c.loop-i-test.true) c.loop-i.invariant.3 (rw c.loop-i.invariant.1.same_image at c.in-Err.ensures.enters) c.loop-i.invariant.0

pub loop-i-preserved : goal.loop-i-preserved
loop-i-preserved g t c =
    let more : length c.enter_slot.new.claims ≡ length c.loop-i.claims + (c.args.pass.now.shape.chunk + 2) = rw c.in-Ok-Some.field-0-is at c.in-Ok-Some.ensures.more in (
      goes_below (g.S.Space.image c.args.space.now) c.args.pass.now.shape c.args.pass.now.asked c.args.node.now c.loop-i.i _ c.in-Ok-Some.child c.args.claims.now c.loop-i.claims c.enter_slot.new.claims c.walk_slots.new.claims c.args.walked.now c.loop-i.walked c.enter_slot.new.walked c.walk_slots.new.walked c.in-Ok.field-0
          (next_slot c.as_slice-word-items.result.now c.args.node.now.slots c.loop-i.i c.as_slice-word-items.ensures c.loop-i-test.true) c.loop-i.invariant.3 (omega (arith, more)) (rw (c.loop-i.invariant.1.same_image, c.in-Ok-Some.field-0-is) at c.in-Ok-Some.ensures.enters)
          (rw (c.in-Ok-Some.ensures.stays.same_image ∙ c.loop-i.invariant.1.same_image) at c.in-Ok.ensures.walks) c.loop-i.invariant.0,
      then_stays g.S.Space.image g.S.Space.files g.S.Space.through g.S.Space.most c.args.space.now c.enter_slot.new.space _
          (then_stays g.S.Space.image g.S.Space.files g.S.Space.through g.S.Space.most c.args.space.now c.loop-i.space _ c.loop-i.invariant.1 c.in-Ok-Some.ensures.stays) c.in-Ok.ensures.stays,
      c.in-Ok.ensures.cause ∙ c.in-Ok-Some.ensures.cause ∙ c.loop-i.invariant.2,
      omega (arith, c.in-Ok.ensures.grows, more, c.loop-i.invariant.3),
      pays_below (g.S.Space.most c.args.space.now) c.args.pass.now.shape.chunk c.args.claims.now c.loop-i.claims c.enter_slot.new.claims c.walk_slots.new.claims c.args.steps.now c.loop-i.steps c.enter_slot.new.steps _ c.requires.some more c.loop-i.invariant.4
          (rw c.loop-i.invariant.1.same_most at c.in-Ok-Some.ensures.steps) (rw (c.in-Ok-Some.ensures.stays.same_most ∙ c.loop-i.invariant.1.same_most) at c.in-Ok.ensures.pays),
    )

pub returns-in-Err-walk_slots-clause-walks : goal.returns-in-Err-walk_slots-clause-walks
returns-in-Err-walk_slots-clause-walks g t c =
    let more : length c.enter_slot.new.claims ≡ length c.loop-i.claims + (c.args.pass.now.shape.chunk + 2) = rw c.in-Ok-Some.field-0-is at c.in-Ok-Some.ensures.more in
    goes_stops_below (g.S.Space.image c.args.space.now) c.args.pass.now.shape c.args.pass.now.asked c.args.node.now c.loop-i.i _ c.in-Ok-Some.child c.args.claims.now c.loop-i.claims c.enter_slot.new.claims c.walk_slots.new.claims c.walk_slots.new.claims c.args.walked.now c.loop-i.walked c.enter_slot.new.walked c.walk_slots.new.walked c.walk_slots.new.walked c.in-Err-walk_slots.stop
    (next_slot c.as_slice-word-items.result.now c.args.node.now.slots c.loop-i.i c.as_slice-word-items.ensures c.loop-i-test.true) c.loop-i.invariant.3 (omega (arith, more)) (rw (c.loop-i.invariant.1.same_image, c.in-Ok-Some.field-0-is) at c.in-Ok-Some.ensures.enters)
    (rw (c.in-Ok-Some.ensures.stays.same_image ∙ c.loop-i.invariant.1.same_image) at c.in-Err-walk_slots.ensures.walks) c.loop-i.invariant.0

pub returns-clause-walks : goal.returns-clause-walks
returns-clause-walks g t c =
    goes_ends (g.S.Space.image c.args.space.now) c.args.pass.now.shape c.args.pass.now.asked c.args.node.now c.loop-i.i c.args.claims.now c.loop-i.claims c.args.walked.now c.loop-i.walked _ (drop_of_length-le c.args.node.now.slots (rw c.as_slice-word-items.ensures at c.loop-i-test.false)) c.loop-i.invariant.0

pub returns-in-Err-clause-bound : goal.returns-in-Err-clause-bound
returns-in-Err-clause-bound g t c =
    spent_stop (g.S.Space.image c.args.space.now) c.args.pass.now.shape c.args.pass.now.asked c.args.node.now c.loop-i.i c.args.claims.now c.loop-i.claims c.args.walked.now c.loop-i.walked (g.S.Space.most c.args.space.now) c.args.steps.now c.loop-i.steps c.enter_slot.new.steps
    c.requires.chunk c.loop-i.invariant.0 c.loop-i.invariant.4 (rw c.loop-i.invariant.1.same_most at c.in-Err.ensures.steps)

pub returns-in-Err-walk_slots-clause-bound : goal.returns-in-Err-walk_slots-clause-bound
returns-in-Err-walk_slots-clause-bound g t c =
    let more : length c.enter_slot.new.claims ≡ length c.loop-i.claims + (c.args.pass.now.shape.chunk + 2) = rw c.in-Ok-Some.field-0-is at c.in-Ok-Some.ensures.more in
    spent_below (g.S.Space.image c.args.space.now) c.args.pass.now.shape c.args.pass.now.asked c.args.node.now c.loop-i.i _ c.in-Ok-Some.child c.args.claims.now c.loop-i.claims c.enter_slot.new.claims c.args.walked.now c.loop-i.walked c.enter_slot.new.walked (g.S.Space.most c.args.space.now) c.args.steps.now c.loop-i.steps c.enter_slot.new.steps c.walk_slots.new.steps
    c.requires.some more c.loop-i.invariant.0 c.loop-i.invariant.4 (rw c.loop-i.invariant.1.same_most at c.in-Ok-Some.ensures.steps) (rw (c.loop-i.invariant.1.same_image, c.in-Ok-Some.field-0-is) at c.in-Ok-Some.ensures.enters)
    (rw (c.in-Ok-Some.ensures.stays.same_image ∙ c.loop-i.invariant.1.same_image, c.in-Ok-Some.ensures.stays.same_most ∙ c.loop-i.invariant.1.same_most) at c.in-Err-walk_slots.ensures.bound)

pub returns-clause-bound : goal.returns-clause-bound
returns-clause-bound g t c =
    spent_end (g.S.Space.image c.args.space.now) c.args.pass.now.shape c.args.pass.now.asked c.args.node.now c.loop-i.i c.args.claims.now c.loop-i.claims c.args.walked.now c.loop-i.walked (g.S.Space.most c.args.space.now) c.args.steps.now c.loop-i.steps c.loop-i.invariant.0 c.loop-i.invariant.4
