use Rattle.std.proofs.Common.{◌≡◌, ◌<◌, ◌≤◌, ◌^◌, ◌-◌, drop, length}
use Rattle.kc_text.specs.Readers.{read_hex_digits}
use Rattle.kc_text.proofs.readers.read_hex16.Given as goal

abbrev pub invariant-loop-i : goal.invariant-loop-i
invariant-loop-i l = record {
  within : l.i ≤ length l.bytes;
  small : l.n < 16 ^ l.i;
  same : read_hex_digits (16 - l.i) l.n (drop l.i l.bytes) ≡ read_hex_digits 16 0 l.bytes;
}
