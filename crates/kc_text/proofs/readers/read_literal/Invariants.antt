use Rattle.std.proofs.Common.{◌≡◌, ◌≤◌, drop, length}
use Rattle.kc_text.specs.Readers.{read_literal}
use Rattle.kc_text.proofs.readers.read_literal.Given as goal

abbrev pub invariant-loop-i : goal.invariant-loop-i
invariant-loop-i l = record { within : l.i ≤ length l.bytes; same : read_literal (drop l.i l.text) (drop l.i l.bytes) ≡ read_literal l.text l.bytes }
