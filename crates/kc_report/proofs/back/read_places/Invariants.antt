use Rattle.std.proofs.Common.{length}
use Rattle.kc_text.specs.Compose.{Goes}
use Rattle.kc_report.specs.Formats.{end_of, place_format}
use Rattle.kc_report.proofs.back.read_places.Given as goal

abbrev pub invariant-loop-places : goal.invariant-loop-places
invariant-loop-places l = Goes (end_of l.more) place_format l.bytes l.places l.rest

abbrev pub decreases-loop-places : goal.decreases-loop-places
decreases-loop-places l = length l.rest
