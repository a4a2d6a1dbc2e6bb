use Rattle.std.proofs.Common.{◌+◌, arith, rules}
use Rattle.kc_repair.proofs.SuspectLemmas.BitLemmas.{shifted, with_bits_fit}
use Rattle.kc_repair.proofs.suspect.words.with_bits.Goals as goal

pub overflow_cast-result : goal.overflow_cast-result
overflow_cast-result c =
    rw (shifted c.args.from (omega (arith, c.requires))) (rw (shifted c.args.width (omega (arith, c.requires))) (rw (shifted (c.args.from + c.args.width) c.requires)
    (let fits = with_bits_fit c.args.from c.args.width c.from.result c.from-word.result c.requires (rw c.from-word.ensures (search rules)) in search (rules, fits))))
