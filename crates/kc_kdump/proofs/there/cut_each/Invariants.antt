use Rattle.std.proofs.Common.{◌≡◌, ◌++◌, drop, vec_len}
use Rattle.kc_kdump.specs.Runs.{cut_runs}
use Rattle.kc_kdump.proofs.there.cut_each.Given as goal

-- the runs that were cut, and those that are still to be
abbrev pub invariant-loop-run : goal.invariant-loop-run
invariant-loop-run l = record {
  whole : l.cut.items ++ cut_runs l.left (drop l.run-index l.runs) ≡ cut_runs l.there l.runs;
  many : vec_len l.cut ≡ l.run-index;
}
