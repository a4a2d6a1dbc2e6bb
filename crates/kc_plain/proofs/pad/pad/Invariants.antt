use Rattle.std.proofs.Common.{◌≡◌, ◌-◌, ◌≤◌, vec_len}
use Rattle.kc_plain.specs.Head.{padded}
use Rattle.kc_plain.proofs.pad.pad.Given as goal

-- the same bytes are still to come to, and no more
abbrev pub invariant-loop-bytes : goal.invariant-loop-bytes
invariant-loop-bytes l = record {
  whole : padded l.end l.bytes.items ≡ padded l.end l.initial.bytes.items;
  within : vec_len l.initial.bytes ≤ l.end → vec_len l.bytes ≤ l.end;
}

abbrev pub decreases-loop-bytes : goal.decreases-loop-bytes
decreases-loop-bytes l = l.end - vec_len l.bytes
