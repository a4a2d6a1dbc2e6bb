use Rattle.std.proofs.Common.{◌≡◌, ◌+◌, drop}
use Rattle.kc_kdump.specs.Runs.{page_count}
use Rattle.kc_plain.specs.Root.{number_from}
use Rattle.kc_plain.proofs.root.number_of.Given as goal

-- none of the runs before has the page frame
abbrev pub invariant-loop-run : goal.invariant-loop-run
invariant-loop-run l = record {
  whole : number_from l.frame l.before (drop l.run-index l.runs) ≡ number_from l.frame 0 l.runs;
  count : l.before + page_count (drop l.run-index l.runs) ≡ page_count l.runs;
}
