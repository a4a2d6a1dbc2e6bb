use Rattle.std.proofs.Common.{◌≡◌, ◌+◌, drop}
use Rattle.kc_text.specs.Readers.{read_digits}
use Rattle.kc_text.proofs.readers.more_digits.Given as goal

abbrev pub invariant-loop-i : goal.invariant-loop-i
invariant-loop-i l = read_digits (l.most + 1) l.n l.end (drop l.i l.bytes) ≡ read_digits (l.most + 1) l.first l.end l.bytes
