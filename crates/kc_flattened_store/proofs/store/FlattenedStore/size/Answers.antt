use Rattle.std.proofs.Common.{sym, ◌∙◌}
use Rattle.kc_flattened_store.proofs.SeenLemmas.{seen_length}
use Rattle.kc_flattened_store.proofs.store.FlattenedStore.size.Goals as goal

pub returns-then-is_dump-clause-length : goal.returns-then-is_dump-clause-length
returns-then-is_dump-clause-length g c =
    seen_length c.args.slot c.args.self.now.shape (g.S.Store.files c.args.self.now.store) (g.S.Store.opened c.args.self.now.store) c.seen_size.result
    (sym c.is_dump.ensures ∙ c.if-is_dump.true)
    c.seen_size.ensures.long
    c.args.self.now.told c.seen_size.ensures.size
