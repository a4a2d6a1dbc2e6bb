use Rattle.std.proofs.Common.{◌≡◌, take}
use Rattle.std.specs.Prelude.{IfSome}
use Rattle.kc_memory.specs.Stays.{SpaceStays}
use Rattle.kc_owner.specs.Object.Keys.{unread_in}
use Rattle.kc_owner.proofs.object.keys.read_unread_in.Given as goal

-- those of the nodes so far
abbrev pub invariant-loop-i : goal.invariant-loop-i
invariant-loop-i g l = record {
  far : IfSome (g.S.Space.image l.fn.space) (λ i. l.caches ≡ unread_in i l.shape (take l.i l.nodes));
  stays : SpaceStays g.S.Space.image g.S.Space.files g.S.Space.through g.S.Space.most l.fn.space l.space;
  quiet : g.S.Space.faults l.space ≡ g.S.Space.faults l.fn.space;
}
