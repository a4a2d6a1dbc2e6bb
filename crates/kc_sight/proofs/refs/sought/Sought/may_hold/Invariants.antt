use Rattle.std.proofs.Common.{◌≡◌, false}
use Rattle.kc_sight.specs.Refs.Writings.{NoneHolds}
use Rattle.kc_sight.proofs.refs.sought.Sought.may_hold.Given as goal

-- none of the words so far holds the value, unless one may
abbrev pub invariant-loop-k : goal.invariant-loop-k
invariant-loop-k l = l.may ≡ false → NoneHolds l.self l.bytes l.k
