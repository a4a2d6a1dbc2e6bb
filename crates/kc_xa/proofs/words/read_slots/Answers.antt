use Rattle.std.proofs.Common.{arith, refl, ap, ◌∙◌, [], ◌∷◌, length, length-append}
use Rattle.kc_xa.proofs.Staying.{stays_so, then_stays}
use Rattle.kc_xa.proofs.SlotWords.{reads_none, reads_more, reads_stop, one_more}
use Rattle.kc_xa.proofs.words.read_slots.Goals as goal

pub loop-i-init : goal.loop-i-init
loop-i-init g c = rw c.new-slots.ensures (reads_none (g.S.Space.image c.args.space.now) c.args.asked.now c.args.led c.args.va, stays_so g.S.Space.image g.S.Space.files g.S.Space.through g.S.Space.most c.args.space.now, refl, refl, omega arith)

pub returns-in-Err-clause-words : goal.returns-in-Err-clause-words
returns-in-Err-clause-words g c =
    reads_stop (g.S.Space.image c.args.space.now) c.args.asked.now c.args.led c.args.va c.loop-i.i c.args.count c.loop-i.slots c.in-Err.stop (omega arith) c.loop-i.invariant.0 (rw c.loop-i.invariant.1.same_image at c.in-Err.ensures.word)

pub loop-i-preserved : goal.loop-i-preserved
loop-i-preserved g c =
    let longer = ap length c.in_ok-push_word.ensures.added ∙ length-append c.loop-i.slots (c.in-Ok.word ∷ []) in (
      rw c.in_ok-push_word.ensures.added (reads_more (g.S.Space.image c.args.space.now) c.args.asked.now c.args.led c.args.va c.loop-i.i c.loop-i.slots c.in-Ok.word c.loop-i.invariant.0 (rw c.loop-i.invariant.1.same_image at c.in-Ok.ensures.word)),
      then_stays g.S.Space.image g.S.Space.files g.S.Space.through g.S.Space.most c.args.space.now c.loop-i.space _ c.loop-i.invariant.1 c.in-Ok.ensures.stays,
      c.in-Ok.ensures.cause ∙ c.loop-i.invariant.2,
      omega (arith, longer, c.loop-i.invariant.3),
      one_more (g.S.Space.most c.args.space.now) c.loop-i.i c.args.steps.now c.loop-i.steps _ c.loop-i.invariant.4 (rw c.loop-i.invariant.1.same_most at c.in-Ok.ensures.steps),
    )
