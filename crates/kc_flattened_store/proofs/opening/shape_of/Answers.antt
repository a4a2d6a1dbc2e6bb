use Rattle.std.proofs.Common.{Vec, Global, List, Option, Ok, Err, ap}
use Rattle.std.specs.Prelude.{option_map}
use Rattle.kc_outside.specs.declared.store.Slot.TheVariants.{Dump}
use Rattle.kc_outside.specs.Files.{content}
use Rattle.kc_flattened.specs.declared.record.Record.{Record}
use Rattle.kc_flattened.specs.Flat.{flat_of}
use Rattle.kc_flattened.proofs.FlatLemmas.{answered}
use Rattle.kc_flattened_store.proofs.SeenLemmas.{told_flat, told_refused, told_whole}
use Rattle.kc_flattened_store.proofs.opening.shape_of.Goals as goal

pub returns-in-Some-clause-told : goal.returns-in-Some-clause-told
returns-in-Some-clause-told g c =
    told_flat (content (g.S.Store.files c.args.store.now) Dump (g.S.Store.opened c.args.store.now Dump)) c.args.size
    (option_map (λ (rs : Vec Record Global). rs.items) c.in-Ok.found) c.in-Some.records.items c.know_size.ensures
    (ap (λ (f : Option (Vec Record Global)). option_map (λ (rs : Vec Record Global). rs.items) f) c.in-Some.is)
    (answered {X = Option (Vec Record Global)} {Y = Option (List Record)} (content (g.S.Store.files c.args.store.now) Dump (g.S.Store.opened c.args.store.now Dump))
    (λ found. option_map (λ (rs : Vec Record Global). rs.items) found) (Ok c.in-Ok.found) (flat_of c.args.size) c.in-Ok.ensures.told)

pub returns-in-None-clause-told : goal.returns-in-None-clause-told
returns-in-None-clause-told g c =
    told_whole (content (g.S.Store.files c.args.store.now) Dump (g.S.Store.opened c.args.store.now Dump)) c.args.size
    (option_map (λ (rs : Vec Record Global). rs.items) c.in-Ok.found) c.know_size.ensures
    (ap (λ (f : Option (Vec Record Global)). option_map (λ (rs : Vec Record Global). rs.items) f) c.in-None.is)
    (answered {X = Option (Vec Record Global)} {Y = Option (List Record)} (content (g.S.Store.files c.args.store.now) Dump (g.S.Store.opened c.args.store.now Dump))
    (λ found. option_map (λ (rs : Vec Record Global). rs.items) found) (Ok c.in-Ok.found) (flat_of c.args.size) c.in-Ok.ensures.told)

pub returns-in-Err-clause-refused : goal.returns-in-Err-clause-refused
returns-in-Err-clause-refused g c =
    told_refused (content (g.S.Store.files c.args.store.now) Dump (g.S.Store.opened c.args.store.now Dump)) c.args.size c.in-Err.stop c.fault_of.result
    c.know_size.ensures c.fault_of.ensures
    (answered {X = Option (Vec Record Global)} {Y = Option (List Record)} (content (g.S.Store.files c.args.store.now) Dump (g.S.Store.opened c.args.store.now Dump))
    (λ found. option_map (λ (rs : Vec Record Global). rs.items) found) (Err c.in-Err.stop) (flat_of c.args.size) c.in-Err.ensures.told)
