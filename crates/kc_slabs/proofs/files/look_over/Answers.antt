use Rattle.std.proofs.Common.{refl}
use Rattle.std.specs.Option.{option_copied}
use Rattle.kc_outside.specs.declared.store.Slot.TheVariants.{Dump}
use Rattle.kc_slabs.proofs.SlabsLemmas.{prints_made}
use Rattle.kc_slabs.proofs.files.look_over.Goals as goal

-- the calls between read other files, so the dump's size stays, and the dump stays open
pub look_with-requires-clause-inside : goal.look_with-requires-clause-inside
look_with-requires-clause-inside g c = rw (c.in_ok-map.ensures.others_sizes Dump refl, c.in_ok-types.ensures.others_sizes Dump refl) c.in_ok-noted.ensures.inside

pub returns-clause-output : goal.returns-clause-output
returns-clause-output g c =
    prints_made (option_copied c.args.asks.now.cache) (g.S.Store.files c.args.store.now) c.args.asks.now.dump.now c.args.asks.now.btf.now c.args.asks.now.map.now c.in_ok-noted.noted c.in_ok-note.note.now
    c.in_ok-types.types c.in_ok-map.map _ c.look_with.result
    c.in_ok-noted.ensures.told c.in_ok-note.ensures.made (rw c.in_ok-noted.ensures.files at c.in_ok-types.ensures.told)
    (rw (c.in_ok-types.ensures.files, c.in_ok-noted.ensures.files) at c.in_ok-map.ensures.told)
    (rw (c.in_ok-map.ensures.files, c.in_ok-types.ensures.files, c.in_ok-map.ensures.others_opened Dump refl, c.in_ok-types.ensures.others_opened Dump refl) c.in_ok-noted.ensures.content)
    (rw c.deref.ensures.value at c.look_with.ensures.output)
