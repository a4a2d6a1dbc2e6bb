use Rattle.std.proofs.Common.{sym, ◌∙◌, option_map}
use Rattle.kc_sight.specs.Views.{symbol_view}
use Rattle.kc_sight.proofs.NearestLemmas.{higher_none, in_map}
use Rattle.kc_sight.proofs.symbol.nearest.Goals as goal

pub returns-clause-lines : goal.returns-clause-lines
returns-clause-lines c =
    let all = rw c.in-None.ensures.steps.0 at c.loop-line.invariant in
    sym (higher_none (option_map symbol_view c.loop-line.found)) ∙ all.2

pub returns-clause-rows : goal.returns-clause-rows
returns-clause-rows c listed is = returns-clause-lines c ∙ in_map c.args.from c.args.kaslr c.args.address c.args.map.now listed is
