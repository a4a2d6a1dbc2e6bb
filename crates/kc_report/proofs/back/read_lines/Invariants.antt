use Rattle.std.proofs.Common.{length}
use Rattle.kc_text.specs.Compose.{Goes}
use Rattle.kc_report.specs.Formats.{end_of, line_format}
use Rattle.kc_report.proofs.back.read_lines.Given as goal

abbrev pub invariant-loop-alloc : goal.invariant-loop-alloc
invariant-loop-alloc l = Goes (end_of l.more) line_format l.bytes l.lines l.rest

abbrev pub decreases-loop-alloc : goal.decreases-loop-alloc
decreases-loop-alloc l = length l.rest
