use Rattle.std.proofs.Common.{◌≡◌, ◌-◌, ◌<◌, ◌≤◌, length, true, false, ap, arith, ◌∙◌, sym}
use Rattle.std.specs.Prelude.{bytes_eq}
use Rattle.std.proofs.lemmas.List.Elements.{All-tail}
use Rattle.kc_btf.specs.declared.types.Member.{Member}
use Rattle.kc_btf.specs.Readers.{name_at}
use Rattle.kc_layout.specs.declared.member.Search.TheVariants.{Found, Absent, Beyond}
use Rattle.kc_layout.specs.Search.{search}
use Rattle.kc_layout.proofs.SearchLemmas.{search-next, search-last, among-end, among-last, among-found, search-lent}
use Rattle.kc_layout.proofs.member.+search.Goals as goal

pub search_type-returns-then-levels-eq0-clause-exact : goal.search_type-returns-then-levels-eq0-clause-exact
search_type-returns-then-levels-eq0-clause-exact t c =
    sym (search-last c.args.levels c.args.btf.now c.args.name.now c.args.t.id c.args.base c.args.left (omega arith))

pub search_type-returns-then-remaining-eq0-clause-exact : goal.search_type-returns-then-remaining-eq0-clause-exact
search_type-returns-then-remaining-eq0-clause-exact t c =
    let a = c.args in
    let l = c.loop-member in
    sym (among-last (search (a.levels - 1) a.btf.now a.name.now) a.btf.now a.name.now a.base l.remaining c.in-Some.member l.member-iterator c.next.new.self c.in-Some.ensures.steps (omega arith))
    ∙ l.invariant.whole
    ∙ sym (search-next a.levels a.btf.now a.name.now a.t.id a.base a.left (omega arith))

pub search_type-returns-then-is_named-clause-exact : goal.search_type-returns-then-is_named-clause-exact
search_type-returns-then-is_named-clause-exact t c =
    let a = c.args in
    let l = c.loop-member in
    let named : bytes_eq (name_at a.btf.now.strings c.in-Some.member.name) a.name.now ≡ true = sym c.is_named.ensures ∙ c.if-is_named.true in
    ap (λ spot. Found spot) c.spot_of.ensures
    ∙ sym (among-found (search (a.levels - 1) a.btf.now a.name.now) a.btf.now a.name.now a.base l.remaining c.in-Some.member l.member-iterator c.next.new.self c.in-Some.ensures.steps (omega arith) named)
    ∙ l.invariant.whole
    ∙ sym (search-next a.levels a.btf.now a.name.now a.t.id a.base a.left (omega arith))

pub search_type-loop-member-preserved : goal.search_type-loop-member-preserved
search_type-loop-member-preserved t c =
    let a = c.args in
    let l = c.loop-member in
    let other : bytes_eq (name_at a.btf.now.strings c.in-Some.member.name) a.name.now ≡ false = sym c.is_named.ensures ∙ c.if-is_named.false in
    record {
      whole = search-lent a.levels a.btf.now a.name.now a.t.id a.base a.left l.remaining c.in-Some.member l.member-iterator c.next.new.self (Absent c.in-Absent.rest) l.invariant.whole c.in-Some.ensures.steps (omega arith) other c.in-Absent.ensures.exact;
      inside = All-tail (λ (m : Member). (m.name < length a.btf.now.strings) × (m.ty ≤ length a.btf.now.records)) c.in-Some.member c.next.new.self (rw c.in-Some.ensures.steps at c.loop-member.invariant.inside);
    }

pub search_type-returns-in-Found-clause-exact : goal.search_type-returns-in-Found-clause-exact
search_type-returns-in-Found-clause-exact t c =
    let a = c.args in
    let l = c.loop-member in
    let other : bytes_eq (name_at a.btf.now.strings c.in-Some.member.name) a.name.now ≡ false = sym c.is_named.ensures ∙ c.if-is_named.false in
    search-lent a.levels a.btf.now a.name.now a.t.id a.base a.left l.remaining c.in-Some.member l.member-iterator c.next.new.self (Found c.in-Found.spot) l.invariant.whole c.in-Some.ensures.steps (omega arith) other c.in-Found.ensures.exact
    ∙ sym (search-next a.levels a.btf.now a.name.now a.t.id a.base a.left (omega arith))

pub search_type-returns-in-Beyond-clause-exact : goal.search_type-returns-in-Beyond-clause-exact
search_type-returns-in-Beyond-clause-exact t c =
    let a = c.args in
    let l = c.loop-member in
    let other : bytes_eq (name_at a.btf.now.strings c.in-Some.member.name) a.name.now ≡ false = sym c.is_named.ensures ∙ c.if-is_named.false in
    search-lent a.levels a.btf.now a.name.now a.t.id a.base a.left l.remaining c.in-Some.member l.member-iterator c.next.new.self Beyond l.invariant.whole c.in-Some.ensures.steps (omega arith) other c.in-Beyond.ensures.exact
    ∙ sym (search-next a.levels a.btf.now a.name.now a.t.id a.base a.left (omega arith))

pub search_type-returns-clause-exact : goal.search_type-returns-clause-exact
search_type-returns-clause-exact t c =
    let a = c.args in
    let l = c.loop-member in
    sym (among-end (search (a.levels - 1) a.btf.now a.name.now) a.btf.now a.name.now a.base l.remaining l.member-iterator c.in-None.ensures.steps.0)
    ∙ l.invariant.whole
    ∙ sym (search-next a.levels a.btf.now a.name.now a.t.id a.base a.left (omega arith))
