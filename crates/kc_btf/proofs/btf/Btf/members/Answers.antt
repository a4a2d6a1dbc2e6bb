use Rattle.std.proofs.Common.{◌≡◌, ◌≤◌, ◌<◌, true, length, ap, sym, ◌∙◌, Some, option_map, subst, List}
use Rattle.std.specs.Prelude.{All}
use Rattle.kc_btf.specs.declared.types.Member.{Member}
use Rattle.kc_btf.specs.Kind.{is_compound}
use Rattle.kc_btf.specs.Readers.{members, members_of}
use Rattle.kc_btf.specs.Records.{record_at}
use Rattle.kc_btf.proofs.KeptLemmas.{owned, place_of, members_inside, words-compound, room-compound}
use Rattle.kc_btf.proofs.btf.Btf.members.Goals as goal

pub new-requires : goal.new-requires
new-requires c =
    let s = c.self.inside in
    let t = c.args.t in
    let own = owned s.bytes.items s.header s.table.items c.args.self.now t c.self.invariant c.self.view_is c.requires.ours in
    let at : c.place-behind.result ≡ place_of s.header s.table.items t.id = cc in
    rw (c.deref-2.ensures.value, at) (room-compound s.bytes.items (place_of s.header s.table.items t.id) t.id t own.same c.requires.compound own.is.found)

-- what was made are the record's members
made : (c : goal.After-new) → let r = record_at c.self.inside.bytes.items (place_of c.self.inside.header c.self.inside.table.items c.args.t.id) in c.new.result ≡ members r.flag r.words
made c =
    let s = c.self.inside in
    let t = c.args.t in
    let own = owned s.bytes.items s.header s.table.items c.args.self.now t c.self.invariant c.self.view_is c.requires.ours in
    let at : c.place-behind.result ≡ place_of s.header s.table.items t.id = cc in
    let r = record_at s.bytes.items (place_of s.header s.table.items t.id) in
    let flag : t.flag ≡ r.flag = ap (λ x. x.flag) own.same in
    let numbers = words-compound s.bytes.items (place_of s.header s.table.items t.id) t.id t own.same c.requires.compound in
    (rw (c.deref-2.ensures.value, at) at c.new.ensures) ∙ ap (members t.flag) (sym numbers) ∙ ap (λ f. members f r.words) flag

pub returns-clause-exact : goal.returns-clause-exact
returns-clause-exact c =
    let s = c.self.inside in
    let own = owned s.bytes.items s.header s.table.items c.args.self.now c.args.t c.self.invariant c.self.view_is c.requires.ours in
    ap (option_map members_of) own.is.numbered ∙ ap (λ (ms : List Member). Some ms) (sym (made c))

pub returns-clause-inside : goal.returns-clause-inside
returns-clause-inside c =
    let s = c.self.inside in
    let types = c.args.self.now in
    let own = owned s.bytes.items s.header s.table.items types c.args.t c.self.invariant c.self.view_is c.requires.ours in
    let r = record_at s.bytes.items (place_of s.header s.table.items c.args.t.id) in
    let kind : is_compound r.kind ≡ true = rw own.same at c.requires.compound in
    let inside = members_inside (length types.strings) (length types.records) r.kind r.flag r.words kind own.is.refer.words in
    subst (All (λ (m : Member). (m.name < length types.strings) × (m.ty ≤ length types.records))) (sym (made c)) inside
