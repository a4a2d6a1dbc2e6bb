use Rattle.std.proofs.Common.{◌≡◌, ◌-◌}
use Rattle.kc_memory.specs.Stays.{SpaceStays}
use Rattle.kc_bytes.specs.Bytes.{IsKept, bytes_at}
use Rattle.kc_bytes.proofs.ReadLemmas.{IsPartly}
use Rattle.kc_bytes.proofs.bytes.read_bytes.Given as goal

-- what was read before what is left to read is all
abbrev pub invariant-loop-i : goal.invariant-loop-i
invariant-loop-i g l = record {
  read : IsPartly (g.S.Space.image l.fn.space) (λ image. bytes_at image l.fn.count l.fn.at) l.bytes.items (l.count - l.i) l.cursor.at;
  kept : IsKept (g.S.Space.image l.space) l.cursor.word;
  stays : SpaceStays g.S.Space.image g.S.Space.files g.S.Space.through g.S.Space.most l.fn.space l.space;
  quiet : g.S.Space.faults l.space ≡ g.S.Space.faults l.fn.space;
}
