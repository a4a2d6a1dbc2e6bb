use Rattle.std.proofs.Common.{◌≡◌, ◌+◌, ◌-◌, ◌*◌, ◌≤◌, ◌∙◌, refl, arith}
use Rattle.kc_outside.specs.declared.store.Slot.TheVariants.{Dump}
use Rattle.kc_outside.specs.Files.{content}
use Rattle.kc_kdump.proofs.CutLemmas.{stays_on}
use Rattle.kc_kdump.proofs.ThereLemmas.{block_off, block_on, blocks_end}
use Rattle.kc_kdump.proofs.there.count_first.Goals as goal

pub returns-then-end-index-clause-told : goal.returns-then-end-index-clause-told
returns-then-end-index-clause-told g c =
    let told = content (g.S.Store.files c.args.store.now) Dump (g.S.Store.opened c.args.store.now Dump) in
    let before = c.loop-index.invariant in
    let same : content (g.S.Store.files c.loop-index.store) Dump (g.S.Store.opened c.loop-index.store Dump) ≡ told = rw (before.stays.same_files, before.stays.same_opened) refl in
    let many : c.loop-index.index + c.min-many.result ≤ c.args.most = omega (arith, c.min-many.ensures) in
    block_off told _ c.args.size c.args.layout.now c.loop-index.index c.min-many.result c.in_ok-end.end c.args.most same c.if-end-index.true many c.in_ok-end.ensures.told before.there

pub loop-index-preserved : goal.loop-index-preserved
loop-index-preserved g c =
    let told = content (g.S.Store.files c.args.store.now) Dump (g.S.Store.opened c.args.store.now Dump) in
    let before = c.loop-index.invariant in
    let next = c.in_ok-end.ensures in
    let same : content (g.S.Store.files c.loop-index.store) Dump (g.S.Store.opened c.loop-index.store Dump) ≡ told = rw (before.stays.same_files, before.stays.same_opened) refl in
    let many : c.loop-index.index + c.min-many.result ≤ c.args.most = omega (arith, c.min-many.ensures) in
    let whole : c.in_ok-end.end ≡ c.loop-index.index + c.min-many.result = omega (arith, next.few, c.if-end-index.false) in
    record {
      stays = stays_on _ _ _ _ _ _ _ _ before.stays next.stays;
      quiet = next.counts ∙ before.quiet;
      few = omega (arith, many, whole);
      there = block_on told _ c.args.size c.args.layout.now c.loop-index.index c.min-many.result c.in_ok-end.end c.args.most same whole many next.told before.there;
    }

pub returns-clause-told : goal.returns-clause-told
returns-clause-told g c =
    let told = content (g.S.Store.files c.args.store.now) Dump (g.S.Store.opened c.args.store.now Dump) in
    blocks_end told c.args.size c.args.layout.now c.loop-index.index c.args.most (omega arith) c.loop-index.invariant.there
