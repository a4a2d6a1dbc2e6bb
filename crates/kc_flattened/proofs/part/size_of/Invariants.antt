use Rattle.std.proofs.Common.{◌≡◌, max, drop}
use Rattle.kc_flattened.specs.Flat.{size_of}
use Rattle.kc_flattened.proofs.part.size_of.Given as goal

abbrev pub invariant-loop-record : goal.invariant-loop-record
invariant-loop-record l = max l.end (size_of (drop l.record-index l.records)) ≡ size_of l.records
