use Rattle.std.proofs.Common.{◌≡◌, ◌+◌, ◌*◌, ◌≤◌, ◌++◌, ℕ, List, take, drop, refl, arith}
use Rattle.std.proofs.lemmas.Grind.{common_steps}
use Rattle.kc_sight.specs.Refs.Holding.{place}
use Rattle.kc_sight.proofs.RefsLemmas.BlockLemmas.{told_more}
use Rattle.kc_sight.proofs.RefsLemmas.StoreLemmas.{stays_on, told_before}
use Rattle.kc_sight.proofs.refs.search.search_segment.Goals as goal

-- src/search.rt:148:5
pub loop-first-preserved : goal.loop-first-preserved
loop-first-preserved g c =
    let stays = stays_on g.S.Store.opened g.S.Store.sizes g.S.Store.files g.S.Store.may g.S.Store.asked c.args.store.now c.loop-first.store c.read_words.new.store c.loop-first.invariant.stays c.read_words.ensures.stays in
    let part = told_before g.S.Store.opened g.S.Store.sizes g.S.Store.files g.S.Store.may g.S.Store.asked c.args.store.now c.loop-first.store
    (λ bytes. take (8 * c.min-count.result) c.read_words.new.block ≡ take (8 * c.min-count.result) (drop (place c.args.segment.now c.loop-first.first).off bytes))
    c.loop-first.invariant.stays (c.in_ok-read_words.ensures.part) in
    record {
      within = grind (arith, common_steps);
      length = grind (arith, common_steps);
      found = told_more _ c.args.sought.now c.read_words.new.block c.args.segment.now c.loop-first.first c.min-count.result (c.loop-first.first + c.min-count.result) c.args.found.now.items c.loop-first.found.items c.add_block.new.found.items refl part c.loop-first.invariant.found c.in_ok-add_block.ensures;
      stays = stays;
      quiet = grind (arith, common_steps);
    }
