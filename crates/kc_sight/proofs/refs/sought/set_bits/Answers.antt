use Rattle.std.proofs.Common.{◌≡◌, ◌%◌, ◌<◌, length, get_or, arith}
use Rattle.std.proofs.lemmas.Grind.{common_steps}
use Rattle.kc_sight.proofs.RefsLemmas.WritingLemmas.{one_bit_more}
use Rattle.kc_sight.proofs.refs.sought.set_bits.Goals as goal

-- src/sought.rt:63:5
pub loop-random-preserved : goal.loop-random-preserved
loop-random-preserved c =
    let more = one_bit_more c.loop-random.filter.items c.args.randoms.now c.loop-random.random-index (grind (arith, common_steps)) (grind (arith, common_steps)) c.loop-random.invariant.law in
    record { size = c.loop-random.invariant.size; law = grind (arith, common_steps) }
