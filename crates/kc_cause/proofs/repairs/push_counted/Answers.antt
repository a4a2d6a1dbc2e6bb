use Rattle.kc_text.specs.Compose.{texts}
use Rattle.kc_cause.specs.Explained.{leads_to}
use Rattle.kc_cause.specs.Judged.{over_plan}
use Rattle.kc_cause.specs.Lines.{count_line, word_line}
use Rattle.kc_cause.proofs.LedLemmas.{after_pure}
use Rattle.kc_cause.proofs.repairs.push_counted.Goals as goal

pub returns-clause-added : goal.returns-clause-added
returns-clause-added g c =
    after_pure (g.M.Space.image c.args.memory.now) c.push_words.result c.args.text.now.items _ _ (count_line c.args.words.now) (λ m. texts (word_line (leads_to (over_plan c.args.over.now m))) c.args.words.now)
    c.in_ok-push_count.ensures c.push_words.ensures.added
