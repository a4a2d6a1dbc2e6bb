use Rattle.std.proofs.Common.{◌≡◌, ◌++◌, reverse}
use Rattle.std.specs.Prelude.{IfSome}
use Rattle.kc_memory.specs.Stays.{SpaceStays}
use Rattle.kc_repair.specs.Suspect.Links.{links_from, tree_links}
use Rattle.kc_repair.proofs.suspect.links.tree_links.Given as goal

abbrev pub invariant-loop-left : goal.invariant-loop-left
invariant-loop-left g l = record {
  links : IfSome (g.S.Space.image l.fn.space) (λ image. l.links ++ links_from image l.shape (reverse l.ahead.items) l.left ≡ tree_links image l.shape l.head);
  stays : SpaceStays g.S.Space.image g.S.Space.files g.S.Space.through g.S.Space.most l.fn.space l.space;
  quiet : g.S.Space.faults l.space ≡ g.S.Space.faults l.fn.space;
}

abbrev pub decreases-loop-left : goal.decreases-loop-left
decreases-loop-left g l = l.left
