use Rattle.kc_cause.specs.Explained.{leads_to}
use Rattle.kc_cause.specs.Judged.{over_plan}
use Rattle.kc_cause.proofs.LedLemmas.{led_added}
use Rattle.kc_cause.proofs.repairs.push_led.Goals as goal

pub returns-clause-added : goal.returns-clause-added
returns-clause-added g c =
    led_added (g.M.Space.image c.args.memory.now) c.push_meant.result c.args.word c.args.text.now.items _ _ _ (λ m. leads_to (over_plan c.args.over.now m))
    c.in_ok-push_suspect.ensures c.in_ok-push.ensures c.push_meant.ensures.added
