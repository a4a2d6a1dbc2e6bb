use Rattle.std.proofs.Common.{◌≡◌, ℕ, ◌-◌, ◌*◌, ◌<◌, ◌≤◌, length, true}
use Rattle.kc_kdump.specs.Bytes.{part}
use Rattle.kc_kdump.specs.Dump.{descriptor_of, is_inside}
use Rattle.kc_kdump.proofs.there.count_inside.Given as goal

-- the pages of the first descriptors are in the file
abbrev pub invariant-loop-at : goal.invariant-loop-at
invariant-loop-at l = record {
  place : l.at ≡ 24 * l.count;
  within : l.at ≤ length l.bytes;
  each : (k : ℕ) → k < l.count → is_inside l.size (descriptor_of (part (24 * k) 24 l.bytes)) ≡ true;
}

abbrev pub decreases-loop-at : goal.decreases-loop-at
decreases-loop-at l = length l.bytes - l.at
