use Rattle.std.proofs.Common.{◌≡◌, Err, arith, rules}
use Rattle.std.specs.Option.{option_copied}
use Rattle.kc_outside.specs.declared.store.Slot.TheVariants.{Dump}
use Rattle.kc_outside.specs.Files.{content}
use Rattle.kc_syms.specs.Symbols.{symbol}
use Rattle.kc_slabs.specs.Looking.{told_view}
use Rattle.kc_slabs.specs.Slabs.{seen_made}
use Rattle.kc_slabs.proofs.SlabsLemmas.{none_left, prints_halt, prints_seen, prints_unrefused}
use Rattle.kc_slabs.proofs.files.look_with.Goals as goal

pub returns-clause-output : goal.returns-clause-output
returns-clause-output g c =
    let files = c.args.files.now in
    let read = c.in_ok-symbols.ensures.made in
    prints_seen (content (g.S.Store.files c.args.store.now) Dump (g.S.Store.opened c.args.store.now Dump)) (option_copied c.args.asks.now.cache) files.core.now.segments files.info files.note.now files.types.now files.map.now
    (symbol c.in_ok-symbols.symbols) read.0 c.in_ok-shape.shape (told_view c.in_ok-seen.seen) _ read.1 read.2 c.in_ok-shape.ensures.made c.in_ok-seen.ensures.told c.in_ok-answer_of.ensures

pub returns-in_err-shape-clause-output : goal.returns-in_err-shape-clause-output
returns-in_err-shape-clause-output g c =
    let files = c.args.files.now in
    let read = c.in_ok-symbols.ensures.made in
    let ended : c.from_residual-in_err-shape.result ≡ Err c.in_err-shape.field-0.0 = search rules in
    rw ended (prints_halt (content (g.S.Store.files c.args.store.now) Dump (g.S.Store.opened c.args.store.now Dump)) (option_copied c.args.asks.now.cache) files.core.now.segments files.info files.note.now files.types.now files.map.now
    (symbol c.in_ok-symbols.symbols) read.0 _ read.1 read.2 c.in_err-shape.ensures.made)

pub returns-in_err-seen-clause-output : goal.returns-in_err-seen-clause-output
returns-in_err-seen-clause-output g c =
    let files = c.args.files.now in
    let ended : c.from_residual-in_err-seen.result ≡ Err c.in_err-seen.field-0.0 = search rules in
    rw ended (prints_unrefused (content (g.S.Store.files c.args.store.now) Dump (g.S.Store.opened c.args.store.now Dump)) (λ bytes. seen_made (option_copied c.args.asks.now.cache) bytes files.core.now.segments files.info files.note.now files.types.now files.map.now)
    _ c.in_err-seen.ensures.not_refused)

pub returns-in_err-answer_of-clause-output : goal.returns-in_err-answer_of-clause-output
returns-in_err-answer_of-clause-output g c =
    let files = c.args.files.now in
    none_left (content (g.S.Store.files c.args.store.now) Dump (g.S.Store.opened c.args.store.now Dump)) (λ bytes. seen_made (option_copied c.args.asks.now.cache) bytes files.core.now.segments files.info files.note.now files.types.now files.map.now)
    _ (search rules)

-- the file bytes of a segment end no later than its memory
pub look_at-requires-clause-memory : goal.look_at-requires-clause-memory
look_at-requires-clause-memory g c = λ k d lt. let below = c.requires.below k d lt in omega (arith, below)
