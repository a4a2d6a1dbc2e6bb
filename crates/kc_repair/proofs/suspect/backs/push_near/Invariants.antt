use Rattle.std.proofs.Common.{◌≡◌}
use Rattle.kc_memory.specs.Stays.{SpaceStays}
use Rattle.kc_repair.proofs.SuspectLemmas.BackLemmas.{Near}
use Rattle.kc_repair.proofs.suspect.backs.push_near.Given as goal

abbrev pub invariant-loop-i : goal.invariant-loop-i
invariant-loop-i g l = record {
  near : Near (g.S.Space.image l.fn.space) l.back l.link l.value l.i l.fn.changes l.changes;
  stays : SpaceStays g.S.Space.image g.S.Space.files g.S.Space.through g.S.Space.most l.fn.space l.space;
  quiet : g.S.Space.faults l.space ≡ g.S.Space.faults l.fn.space;
}
