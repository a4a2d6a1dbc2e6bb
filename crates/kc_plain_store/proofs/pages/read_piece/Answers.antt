use Rattle.std.proofs.Common.{◌+◌, ◌-◌, ◌*◌, ◌/◌, ◌%◌, ◌<◌, length, arith}
use Rattle.kc_outside.specs.declared.store.Slot.TheVariants.{Dump}
use Rattle.kc_outside.specs.Files.{content}
use Rattle.kc_plain_store.proofs.PageLemmas.{piece_of_page}
use Rattle.kc_plain_store.proofs.pages.read_piece.Goals as goal

pub returns-clause-part : goal.returns-clause-part
returns-clause-part g c =
    let told = content (g.S.Store.files c.args.store.now) Dump (g.S.Store.opened c.args.store.now Dump) in
    let core = c.args.core.now in
    let place = c.args.at - c.len-head.result in
    piece_of_page c.page_piece.result c.know_pages.ensures.page c.know_page.ensures told core.layout core.head.items c.page_piece.new.piece core.pages c.args.at (place / 4096) (place % 4096) (length c.args.piece.now)
    (omega (arith, c.if-at-head.false, c.len-head.ensures, core.head.ok.0))
    (omega (arith, c.if-at-head.false, c.len-head.ensures, c.requires.within, c.requires.some))
    (omega arith)
    c.page_piece.ensures.count c.page_piece.ensures.part
