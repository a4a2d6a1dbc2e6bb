use Rattle.std.proofs.Common.{◌-◌, ◌<◌, ◌≤◌, length, option_map, ap, arith, ◌∙◌, sym}
use Rattle.std.proofs.lemmas.List.Elements.{All-tail}
use Rattle.kc_btf.specs.declared.types.Member.{Member}
use Rattle.kc_layout.specs.Listing.{behind, lists}
use Rattle.kc_layout.proofs.ListingLemmas.{lists-next, lists-last, listed_all-end, listed_all-last, listed_all-on, listed_all-stops}
use Rattle.kc_layout.proofs.listing.+listing.Goals as goal

pub list_type-returns-then-levels-eq0-clause-exact : goal.list_type-returns-then-levels-eq0-clause-exact
list_type-returns-then-levels-eq0-clause-exact t c =
    let a = c.args in
    sym (ap (option_map (behind a.lines.now.items)) (lists-last a.levels a.btf.now a.t.id a.base a.left (omega arith)))

pub list_type-returns-then-remaining-eq0-clause-exact : goal.list_type-returns-then-remaining-eq0-clause-exact
list_type-returns-then-remaining-eq0-clause-exact t c =
    let a = c.args in
    let l = c.loop-member in
    sym (ap (option_map (behind l.lines.items)) (listed_all-last (lists (a.levels - 1) a.btf.now) a.btf.now a.base l.remaining c.in-Some.member l.member-iterator c.next.new.self c.in-Some.ensures.steps (omega arith)))
    ∙ l.invariant.whole
    ∙ ap (option_map (behind a.lines.now.items)) (sym (lists-next a.levels a.btf.now a.t.id a.base a.left (omega arith)))

pub list_type-loop-member-preserved : goal.list_type-loop-member-preserved
list_type-loop-member-preserved t c =
    let a = c.args in
    let l = c.loop-member in
    record {
      whole = listed_all-on (lists (a.levels - 1) a.btf.now) a.btf.now a.base l.remaining c.in-Some-2.rest l.lines.items c.list_member.new.lines.items c.in-Some.member l.member-iterator c.next.new.self c.in-Some.ensures.steps (omega arith) (rw c.in-Some-2.is at c.in_ok-rest.ensures.exact)
          ∙ l.invariant.whole;
      inside = All-tail (λ (m : Member). (m.name < length a.btf.now.strings) × (m.ty ≤ length a.btf.now.records)) c.in-Some.member c.next.new.self (rw c.in-Some.ensures.steps at c.loop-member.invariant.inside);
      named = c.list_member.ensures.named;
    }

pub list_type-returns-in-None-2-clause-exact : goal.list_type-returns-in-None-2-clause-exact
list_type-returns-in-None-2-clause-exact t c =
    let a = c.args in
    let l = c.loop-member in
    listed_all-stops (lists (a.levels - 1) a.btf.now) a.btf.now a.base l.remaining l.lines.items c.in-Some.member l.member-iterator c.next.new.self c.in-Some.ensures.steps (omega arith) (rw c.in-None-2.is at c.in_ok-rest.ensures.exact)
    ∙ l.invariant.whole
    ∙ ap (option_map (behind a.lines.now.items)) (sym (lists-next a.levels a.btf.now a.t.id a.base a.left (omega arith)))

pub list_type-returns-clause-exact : goal.list_type-returns-clause-exact
list_type-returns-clause-exact t c =
    let a = c.args in
    let l = c.loop-member in
    listed_all-end (lists (a.levels - 1) a.btf.now) a.btf.now a.base l.remaining l.lines.items l.member-iterator c.in-None.ensures.steps.0
    ∙ l.invariant.whole
    ∙ ap (option_map (behind a.lines.now.items)) (sym (lists-next a.levels a.btf.now a.t.id a.base a.left (omega arith)))
