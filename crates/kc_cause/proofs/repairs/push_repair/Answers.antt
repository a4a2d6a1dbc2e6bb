use Rattle.kc_cause.specs.Explained.{leads_to}
use Rattle.kc_cause.specs.Judged.{over_plan}
use Rattle.kc_cause.specs.Lines.{after_lines, none_line}
use Rattle.kc_cause.proofs.LedLemmas.{after_pure}
use Rattle.kc_cause.proofs.repairs.push_repair.Goals as goal

pub returns-in_ok-push_none-in-Nothing-clause-added : goal.returns-in_ok-push_none-in-Nothing-clause-added
returns-in_ok-push_none-in-Nothing-clause-added g c =
    rw c.in-Nothing.is (after_pure (g.M.Space.image c.args.memory.now) c.push_after.result c.args.text.now.items _ _ (none_line c.in-Nothing.tried c.in-Nothing.more)
    (λ m. after_lines (leads_to (over_plan c.args.over.now m)) c.args.mended.now.words c.args.mended.now.elements c.in-Nothing.then)
    c.in_ok-push_none-in-Nothing.ensures c.push_after.ensures.added)
