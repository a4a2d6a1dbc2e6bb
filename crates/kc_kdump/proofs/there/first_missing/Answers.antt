use Rattle.std.proofs.Common.{◌≡◌, ◌+◌, ◌*◌, length, arith}
use Rattle.kc_outside.specs.declared.store.Slot.TheVariants.{Dump}
use Rattle.kc_outside.specs.Files.{content}
use Rattle.kc_kdump.proofs.ThereLemmas.{block_first}
use Rattle.kc_kdump.proofs.there.first_missing.Goals as goal

pub returns-clause-told : goal.returns-clause-told
returns-clause-told g c =
    block_first (content (g.S.Store.files c.args.store.now) Dump (g.S.Store.opened c.args.store.now Dump)) c.args.size c.args.layout.now c.read_at.new.buf c.args.index c.args.many c.count_inside.result
    _ (length c.args.room.now) c.requires.inside (omega (arith, c.table.ensures)) c.requires.room c.in_ok-read_at.ensures.part
    (omega (arith, c.count_inside.ensures.within, c.requires.room, c.read_at.auto.buf))
    c.count_inside.ensures.each
    (λ fits. c.count_inside.ensures.next (omega (arith, fits, c.requires.room, c.read_at.auto.buf)))
