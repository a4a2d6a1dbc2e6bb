use Rattle.std.proofs.Common.{◌≡◌, length}
use Rattle.kc_notes.specs.Values.{value_of}
use Rattle.kc_notes.proofs.info.value.Given as goal

-- no line so far has the key
abbrev pub invariant-loop-end : goal.invariant-loop-end
invariant-loop-end l = value_of l.key l.rest ≡ value_of l.key l.text

abbrev pub decreases-loop-end : goal.decreases-loop-end
decreases-loop-end l = length l.rest
