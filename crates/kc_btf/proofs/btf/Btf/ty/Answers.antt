use Rattle.std.proofs.Common.{◌≡◌, Some, ap, option_map, sym, ◌∙◌}
use Rattle.kc_btf.specs.Records.{record_at}
use Rattle.kc_btf.specs.Readers.{type_ref}
use Rattle.kc_btf.proofs.KeptLemmas.{Numbered, numbered, place_of}
use Rattle.kc_btf.proofs.btf.Btf.ty.Goals as goal

here : (c : goal.After-type_at) → Numbered c.self.inside.bytes.items c.self.inside.header c.self.inside.table.items c.args.self.now c.args.id
here c =
    let s = c.self.inside in
    numbered s.bytes.items s.header s.table.items c.args.self.now c.args.id c.self.invariant c.self.view_is c.requires.first c.requires.last

same : (c : goal.After-type_at) → c.type_at.result ≡ type_ref c.args.id (record_at c.self.inside.bytes.items (place_of c.self.inside.header c.self.inside.table.items c.args.id))
same c =
    let at : c.place.result ≡ place_of c.self.inside.header c.self.inside.table.items c.args.id = cc in
    cc

pub returns-clause-exact : goal.returns-clause-exact
returns-clause-exact c = ap (option_map (type_ref c.args.id)) (here c).numbered ∙ ap (λ t. Some t) (sym (same c))

pub returns-clause-name : goal.returns-clause-name
returns-clause-name c = rw (same c) (here c).refer.name

pub returns-clause-target : goal.returns-clause-target
returns-clause-target c = rw (same c) (here c).refer.rest
