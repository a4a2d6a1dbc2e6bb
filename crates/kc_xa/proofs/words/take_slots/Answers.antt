use Rattle.std.proofs.Common.{refl}
use Rattle.kc_xa.proofs.SlotWords.{next_slot, slots_stop}
use Rattle.kc_xa.proofs.words.take_slots.Goals as goal

pub returns-in-Err-clause-taken : goal.returns-in-Err-clause-taken
returns-in-Err-clause-taken c =
    slots_stop (λ (x : Unit {0}). c.take_word.new.claims) (λ (x : Unit {0}). c.take_word.new.claims) c.args.asked.now c.args.claims.now c.loop-word.claims c.args.slots.now _ c.loop-word.word-index _ c.in-Err.stop c.loop-word.invariant.0 (next_slot c.args.slots.now c.args.slots.now c.loop-word.word-index refl c.loop-word-test.true) c.in-Err.ensures.taken
