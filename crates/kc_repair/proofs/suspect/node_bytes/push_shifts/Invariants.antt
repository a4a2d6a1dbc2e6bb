use Rattle.std.proofs.Common.{◌≡◌, ◌++◌}
use Rattle.kc_repair.specs.Suspect.NodeBytes.{with_shifts}
use Rattle.kc_repair.proofs.suspect.node_bytes.push_shifts.Given as goal

abbrev pub invariant-loop-level : goal.invariant-loop-level
invariant-loop-level l = l.changes ≡ l.fn.changes ++ with_shifts l.shape l.node l.bytes l.level
