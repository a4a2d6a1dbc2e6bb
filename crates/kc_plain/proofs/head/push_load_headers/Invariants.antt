use Rattle.std.proofs.Common.{◌≡◌, ◌+◌, ◌*◌, ◌++◌, drop}
use Rattle.kc_kdump.specs.Runs.{page_count}
use Rattle.kc_plain.specs.Head.{load_headers}
use Rattle.kc_plain.proofs.head.push_load_headers.Given as goal

-- what was put, and what is still to come, are the whole; and where the next pages begin
abbrev pub invariant-loop-run : goal.invariant-loop-run
invariant-loop-run l = record {
  whole : l.bytes.items ++ load_headers l.offset (drop l.run-index l.runs) ≡ l.initial.bytes.items ++ load_headers l.first l.runs;
  place : l.offset + 4096 * page_count (drop l.run-index l.runs) ≡ l.first + 4096 * page_count l.runs;
}
