use Rattle.std.proofs.Common.{◌≡◌}
use Rattle.std.specs.Option.{option_copied}
use Rattle.kc_memory.specs.Stays.{SpaceStays}
use Rattle.kc_slab_page.proofs.CacheLemmas.{Far}
use Rattle.kc_slab_page.proofs.caches.read_nodes.Given as goal

abbrev pub invariant-loop-i : goal.invariant-loop-i
invariant-loop-i g l = record {
  far : Far (g.S.Space.image l.fn.space) l.asks.shape.now (option_copied l.asks.wanted) l.nodes l.i l.caches.entries;
  stays : SpaceStays g.S.Space.image g.S.Space.files g.S.Space.through g.S.Space.most l.fn.space l.space;
  quiet : g.S.Space.faults l.space ≡ g.S.Space.faults l.fn.space;
}
