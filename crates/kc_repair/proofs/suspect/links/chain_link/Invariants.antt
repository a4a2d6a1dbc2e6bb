use Rattle.std.proofs.Common.{◌≡◌}
use Rattle.std.specs.Prelude.{IfSome}
use Rattle.kc_memory.specs.Stays.{SpaceStays}
use Rattle.kc_repair.specs.Suspect.Links.{chain_link, chain_links, leading_to}
use Rattle.kc_repair.proofs.suspect.links.chain_link.Given as goal

abbrev pub invariant-loop-left : goal.invariant-loop-left
invariant-loop-left g l = record {
  link : IfSome (g.S.Space.image l.fn.space) (λ image. leading_to l.node l.others (chain_links image l.offset l.at l.left) ≡ chain_link image l.offset l.first l.node l.fn.others);
  stays : SpaceStays g.S.Space.image g.S.Space.files g.S.Space.through g.S.Space.most l.fn.space l.space;
  quiet : g.S.Space.faults l.space ≡ g.S.Space.faults l.fn.space;
}

abbrev pub decreases-loop-left : goal.decreases-loop-left
decreases-loop-left g l = l.left
