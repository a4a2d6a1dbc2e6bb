-- How many steps a walk takes at most, over any memory.
use Rattle.std.proofs.Common.{◌+◌, ◌*◌, None, Some, arith}
use Rattle.std.proofs.Math.Nat.{mul-le-mul_right}
use Rattle.kc_memory.specs.Held.{word_count}
use Rattle.kc_found.specs.Counts.{StepsAreFew}

pub steps_are_few : StepsAreFew
steps_are_few None most before after six within = tt
steps_are_few (Some i) most before after six within =
    let words = 2 * word_count i.physical + 128 in
    let more = mul-le-mul_right words six in
    omega (arith, more, within)
