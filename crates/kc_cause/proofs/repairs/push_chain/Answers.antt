use Rattle.kc_cause.specs.Explained.{leads_to}
use Rattle.kc_cause.specs.Judged.{over_plan}
use Rattle.kc_cause.specs.Lines.{counted_lines, ending_lines}
use Rattle.kc_cause.proofs.LedLemmas.{then_pure}
use Rattle.kc_cause.proofs.repairs.push_chain.Goals as goal

pub returns-clause-added : goal.returns-clause-added
returns-clause-added g c =
    then_pure (g.M.Space.image c.args.memory.now) c.args.text.now.items _ _ (λ m. counted_lines (leads_to (over_plan c.args.over.now m)) c.args.words.now) (ending_lines c.args.words.now c.args.elements)
    c.in_ok-push_counted.ensures.added c.in_ok-push_ending.ensures
