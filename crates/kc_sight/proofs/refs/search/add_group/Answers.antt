use Rattle.std.proofs.Common.{◌≡◌, ◌++◌, ℕ, List, append-nil, sym, ap, subst, ◌∙◌}
use Rattle.kc_sight.specs.declared.refs.place.FoundWord.{FoundWord}
use Rattle.kc_sight.specs.Refs.Writings.{NoneHolds}
use Rattle.kc_sight.proofs.RefsLemmas.BlockLemmas.{none_in}
use Rattle.kc_sight.proofs.refs.search.add_group.Goals as goal

pub returns-then-not-may_hold : goal.returns-then-not-may_hold
returns-then-not-may_hold c =
    let holds : NoneHolds c.args.sought.now c.args.words.now c.args.count =
    subst (λ (n : ℕ). NoneHolds c.args.sought.now c.args.words.now n) (sym c.if-count-eq-GROUP.true) (c.may_hold.ensures c.if-not-may_hold.true) in
    sym (ap (λ (l : List FoundWord). c.args.found.now.items ++ l) (none_in c.args.sought.now c.args.words.now c.args.segment.now c.args.first c.args.count c.requires.near c.requires.below holds)
    ∙ append-nil c.args.found.now.items)
