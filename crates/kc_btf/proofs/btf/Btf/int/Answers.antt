use Rattle.std.proofs.Common.{◌≡◌, ap, ◌∙◌, option_and_then}
use Rattle.kc_btf.specs.Readers.{int_of}
use Rattle.kc_btf.specs.Records.{record_at}
use Rattle.kc_btf.specs.declared.kind.Kind.TheVariants.{Int}
use Rattle.kc_btf.proofs.KeptLemmas.{owned, place_of}
use Rattle.kc_btf.proofs.btf.Btf.int.Goals as goal

pub int_at-requires-clause-int : goal.int_at-requires-clause-int
int_at-requires-clause-int c =
    let s = c.self.inside in
    let own = owned s.bytes.items s.header s.table.items c.args.self.now c.args.t c.self.invariant c.self.view_is c.requires.ours in
    let at : c.place.result ≡ place_of s.header s.table.items c.args.t.id = cc in
    let kind : (record_at s.bytes.items (place_of s.header s.table.items c.args.t.id)).kind ≡ Int = rw own.same at c.requires.int in
    rw (c.deref.ensures.value, at) kind

pub returns : goal.returns
returns c =
    let s = c.self.inside in
    let own = owned s.bytes.items s.header s.table.items c.args.self.now c.args.t c.self.invariant c.self.view_is c.requires.ours in
    let at : c.place.result ≡ place_of s.header s.table.items c.args.t.id = cc in
    ap (option_and_then int_of) own.is.numbered ∙ (rw (c.deref.ensures.value, at) at c.int_at.ensures)
