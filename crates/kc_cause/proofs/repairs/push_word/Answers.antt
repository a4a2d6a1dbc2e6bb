use Rattle.std.specs.Prelude.{codes}
use Rattle.kc_cause.specs.Explained.{leads_to}
use Rattle.kc_cause.specs.Judged.{over_plan}
use Rattle.kc_cause.specs.Lines.{led_lines}
use Rattle.kc_cause.proofs.LedLemmas.{after_pure}
use Rattle.kc_cause.proofs.repairs.push_word.Goals as goal

pub returns-clause-added : goal.returns-clause-added
returns-clause-added g c =
    after_pure (g.M.Space.image c.args.memory.now) c.push_led.result c.args.text.now.items _ _ (codes "word ") (λ m. led_lines (leads_to (over_plan c.args.over.now m)) c.args.word)
    c.in_ok-push.ensures c.push_led.ensures.added
