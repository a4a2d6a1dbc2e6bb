use Rattle.std.proofs.Common.{◌≡◌}
use Rattle.kc_memory.specs.Stays.{SpaceStays}
use Rattle.kc_repair.proofs.SuspectLemmas.SlotLemmas.{Seen}
use Rattle.kc_repair.proofs.suspect.node_bytes.read_slots.Given as goal

abbrev pub invariant-loop-k : goal.invariant-loop-k
invariant-loop-k g l = record {
  seen : Seen (g.S.Space.image l.fn.space) l.shape l.node l.k l.slots;
  stays : SpaceStays g.S.Space.image g.S.Space.files g.S.Space.through g.S.Space.most l.fn.space l.space;
  quiet : g.S.Space.faults l.space ≡ g.S.Space.faults l.fn.space;
}
