use Rattle.std.proofs.Common.{◌≡◌, true, length, ap, ◌∙◌, option_and_then}
use Rattle.kc_btf.specs.Readers.{array_of}
use Rattle.kc_btf.specs.Records.{record_at, words_inside}
use Rattle.kc_btf.specs.declared.kind.Kind.TheVariants.{Array}
use Rattle.kc_btf.proofs.KeptLemmas.{owned, place_of, array_inside}
use Rattle.kc_btf.proofs.btf.Btf.array.Goals as goal

pub array_at-requires-clause-array : goal.array_at-requires-clause-array
array_at-requires-clause-array c =
    let s = c.self.inside in
    let own = owned s.bytes.items s.header s.table.items c.args.self.now c.args.t c.self.invariant c.self.view_is c.requires.ours in
    let at : c.place.result ≡ place_of s.header s.table.items c.args.t.id = cc in
    let kind : (record_at s.bytes.items (place_of s.header s.table.items c.args.t.id)).kind ≡ Array = rw own.same at c.requires.array in
    rw (c.deref.ensures.value, at) kind

pub returns-clause-exact : goal.returns-clause-exact
returns-clause-exact c =
    let s = c.self.inside in
    let own = owned s.bytes.items s.header s.table.items c.args.self.now c.args.t c.self.invariant c.self.view_is c.requires.ours in
    let at : c.place.result ≡ place_of s.header s.table.items c.args.t.id = cc in
    ap (option_and_then array_of) own.is.numbered ∙ (rw (c.deref.ensures.value, at) at c.array_at.ensures)

pub returns-clause-inside : goal.returns-clause-inside
returns-clause-inside c =
    let s = c.self.inside in
    let types = c.args.self.now in
    let own = owned s.bytes.items s.header s.table.items types c.args.t c.self.invariant c.self.view_is c.requires.ours in
    let at : c.place.result ≡ place_of s.header s.table.items c.args.t.id = cc in
    let r = record_at s.bytes.items (place_of s.header s.table.items c.args.t.id) in
    let kind : r.kind ≡ Array = rw own.same at c.requires.array in
    let inside : words_inside (length types.strings) (length types.records) Array 0 r.words ≡ true = rw kind at own.is.refer.words in
    array_inside (length types.strings) (length types.records) r.words c.array_at.result inside (rw (c.deref.ensures.value, at) at c.array_at.ensures)
