use Rattle.std.proofs.Common.{ℕ, Global, arith, rules}
use Rattle.std.specs.declared.collections.BTreeMap.{BTreeMap}
use Rattle.std.specs.Option.{option_copied}
use Rattle.std.proofs.lemmas.Grind.{common_steps}
use Rattle.kc_memory.specs.Stays.{stays_on}
use Rattle.kc_slab_page.specs.declared.caches.CacheSeen.{CacheSeen}
use Rattle.kc_slab_page.proofs.CacheLemmas.{nodes_done, nodes_next}
use Rattle.kc_slab_page.proofs.caches.read_nodes.Goals as goal

pub loop-i-preserved : goal.loop-i-preserved
loop-i-preserved g c = record {
  far = nodes_next (g.S.Space.image c.args.space.now) c.args.asks.now.shape.now (option_copied c.args.asks.now.wanted) c.args.nodes.now c.loop-i.i c.get.result.now c.loop-i.caches.entries _
      c.get.ensures (rw c.loop-i.invariant.stays.same_image at c.in_ok-add_cache.ensures.added) c.loop-i.invariant.far;
  stays = stays_on g.S.Space.image g.S.Space.files g.S.Space.through g.S.Space.most _ _ _ c.loop-i.invariant.stays c.in_ok-add_cache.ensures.stays;
  quiet = grind (arith, common_steps);
}

pub returns-clause-exact : goal.returns-clause-exact
returns-clause-exact g c =
    nodes_done (λ (m : BTreeMap ℕ CacheSeen Global). m.entries) (g.S.Space.image c.args.space.now) c.args.asks.now.shape.now (option_copied c.args.asks.now.wanted) c.args.nodes.now c.loop-i.i c.loop-i.caches
    (search rules) c.loop-i.invariant.far
