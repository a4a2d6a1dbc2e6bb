use Rattle.std.proofs.Common.{◌≡◌, ◌++◌, drop}
use Rattle.std.specs.List.{flat_map}
use Rattle.std.specs.Prelude.{IfSome}
use Rattle.kc_memory.specs.Stays.{SpaceStays}
use Rattle.kc_repair.specs.Suspect.Changes.{made}
use Rattle.kc_repair.proofs.suspect.made.make_all.Given as goal

-- what was added, and what is still to come, are the whole
abbrev pub invariant-loop-change : goal.invariant-loop-change
invariant-loop-change g l = record {
  made : IfSome (g.S.Space.image l.fn.space) (λ image. l.suspects ++ flat_map (made image) (drop l.change-index l.changes) ≡ flat_map (made image) l.changes);
  stays : SpaceStays g.S.Space.image g.S.Space.files g.S.Space.through g.S.Space.most l.fn.space l.space;
  quiet : g.S.Space.faults l.space ≡ g.S.Space.faults l.fn.space;
}
