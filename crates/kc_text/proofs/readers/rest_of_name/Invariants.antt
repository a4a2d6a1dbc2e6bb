use Rattle.std.proofs.Common.{◌≡◌, ◌≤◌, ◌-◌, take, drop}
use Rattle.kc_text.specs.Readers.{read_name}
use Rattle.kc_text.proofs.LoopLemmas.{with_front}
use Rattle.kc_text.proofs.readers.rest_of_name.Given as goal

abbrev pub invariant-loop-i : goal.invariant-loop-i
invariant-loop-i l = record { short : l.i ≤ 63; same : with_front (take l.i l.bytes) (read_name (63 - l.i) l.end (drop l.i l.bytes)) ≡ read_name 63 l.end l.bytes }
