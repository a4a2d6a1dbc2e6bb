use Rattle.std.proofs.Common.{◌≡◌, take}
use Rattle.kc_sight.specs.Refs.Writings.{codes}
use Rattle.kc_sight.proofs.refs.sought.codes.Given as goal

-- the words of the numbers so far
abbrev pub invariant-loop-random : goal.invariant-loop-random
invariant-loop-random l = l.words.items ≡ codes l.value l.direct (take l.random-index l.randoms)
